use Rattle.std.proofs.Common.{take}
use Rattle.isl_nest.specs.Naming.{AreNaming}
use Rattle.isl_nest.proofs.naming.naming.Given as goal

abbrev pub invariant-loop-row : goal.invariant-loop-row
invariant-loop-row l = AreNaming l.least l.columns (take l.row-index l.rows) l.own
