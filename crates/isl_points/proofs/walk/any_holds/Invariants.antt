use Rattle.std.proofs.Common.{◌≡◌, [], take}
use Rattle.std.specs.List.{All}
use Rattle.isl_piece.specs.declared.system.System.{System}
use Rattle.isl_piece.specs.System.{HoldsSystem}
use Rattle.isl_points.proofs.walk.any_holds.Given as goal

abbrev pub invariant-loop-system : goal.invariant-loop-system
invariant-loop-system l = All (λ (s : System). ¬ HoldsSystem s []) (take l.system-index l.systems) × (l.meter ≡ l.fn.meter)
