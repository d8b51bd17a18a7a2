use Rattle.std.proofs.Common.{take}
use Rattle.isl_pip.specs.Lift.{AreMoved}
use Rattle.isl_pip.proofs.lift.push_moved.Given as goal

abbrev pub invariant-loop-row : goal.invariant-loop-row
invariant-loop-row l = AreMoved l.column l.anchor (take l.row-index l.rows) l.fn.made l.made
