use Rattle.std.specs.Prelude.{IfSome}
use Rattle.isl_pip.specs.Lift.{IsAnchor}
use Rattle.isl_pip.proofs.lift.anchor_of.Given as goal

abbrev pub invariant-loop-system : goal.invariant-loop-system
invariant-loop-system l = IfSome l.found (IsAnchor l.fn.meter l.columns l.column)
