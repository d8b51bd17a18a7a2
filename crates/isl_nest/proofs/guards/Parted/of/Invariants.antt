use Rattle.std.proofs.Common.{take}
use Rattle.isl_nest.specs.Opened.{AreParted}
use Rattle.isl_nest.proofs.guards.Parted.of.Given as goal

abbrev pub invariant-loop-row : goal.invariant-loop-row
invariant-loop-row l = AreParted l.variables (take l.row-index l.rows) l.outside l.inside
