use Rattle.std.proofs.Common.{◌≡◌, [], take}
use Rattle.std.specs.List.{All, Any}
use Rattle.isl_meter.specs.Gauge.{Gauge}
use Rattle.isl_precedence.specs.Forms.{widths_for}
use Rattle.isl_precedence.specs.Later.{HasLater, IsLater, IsOver, IsPlainLater}
use Rattle.isl_remainder.specs.Made.{AreMade}
use Rattle.isl_precedence.specs.Precedence.{HoldsFor, LiesIn}
use Rattle.isl_precedence.proofs.lasts.all_later_systems.Given as goal

abbrev pub invariant-loop-later : goal.invariant-loop-later
invariant-loop-later l =
    (g : Gauge) → All (IsLater g l.params) l.laters
    → AreMade (λ o s. HoldsFor l.params l.forms s o) (IsOver g (widths_for l.params l.forms)) (λ s. s.definitions ≡ [])
    (All IsPlainLater l.laters) (λ o. Any (λ k. LiesIn l.forms o × HasLater l.params o k) (take l.later-index l.laters)) l.made.items
