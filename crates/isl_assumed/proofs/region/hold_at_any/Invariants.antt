use Rattle.std.proofs.Common.{◌≡◌, All, take}
use Rattle.isl_piece.specs.declared.system.System.{System}
use Rattle.isl_piece.specs.System.{HoldsSystem}
use Rattle.isl_assumed.proofs.region.hold_at_any.Given as goal

abbrev pub invariant-loop-system : goal.invariant-loop-system
invariant-loop-system l = record {
  none : All (λ (s : System). ¬ HoldsSystem s l.point) (take l.system-index l.systems);
  meter : l.meter ≡ l.fn.meter;
}
