use Rattle.std.specs.Prelude.{IfSome}
use Rattle.isl_pip.specs.Lift.{IsAnchor}
use Rattle.isl_pip.proofs.lift.found_in.Given as goal

abbrev pub invariant-loop-row : goal.invariant-loop-row
invariant-loop-row l = IfSome l.found (IsAnchor l.fn.meter l.columns l.column)
