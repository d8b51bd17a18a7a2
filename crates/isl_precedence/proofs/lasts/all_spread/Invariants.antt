use Rattle.std.proofs.Common.{◌≡◌, [], take}
use Rattle.std.specs.List.{All, Any}
use Rattle.isl_meter.specs.Gauge.{Gauge}
use Rattle.isl_piece.specs.System.{IsSystemWithin}
use Rattle.isl_precedence.specs.Later.{HoldsOver, HoldsPicked, IsOver}
use Rattle.isl_remainder.specs.Made.{AreMade}
use Rattle.isl_precedence.proofs.lasts.all_spread.Given as goal

abbrev pub invariant-loop-system : goal.invariant-loop-system
invariant-loop-system l =
    (g : Gauge) → All (IsSystemWithin g) l.systems
    → AreMade (HoldsOver l.widths) (IsOver g l.widths) (λ s. s.definitions ≡ []) (All (λ s. s.definitions ≡ []) l.systems)
    (λ blocks. Any (HoldsPicked l.widths l.picks blocks) (take l.system-index l.systems)) l.made.items
