use Rattle.std.proofs.Common.{take}
use Rattle.std.specs.List.{All}
use Rattle.isl_meter.specs.Gauge.{Gauge}
use Rattle.isl_affine.specs.Scope.{Scope}
use Rattle.isl_piece.specs.System.{HoldsSystem}
use Rattle.isl_alternatives.specs.Restricted.{AreRestricted, IsOver}
use Rattle.isl_alternatives.proofs.lists.met_with.Given as goal

abbrev pub invariant-loop-system : goal.invariant-loop-system
invariant-loop-system l = (g : Gauge) (scope : Scope) → All (IsOver g scope) l.systems → IsOver g scope l.other
    → AreRestricted g g scope (take l.system-index l.systems) (λ point env. HoldsSystem l.other point) l.met.items
