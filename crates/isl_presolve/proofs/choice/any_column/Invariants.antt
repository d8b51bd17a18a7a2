use Rattle.std.proofs.Common.{◌<◌}
use Rattle.isl_presolve.proofs.choice.any_column.Given as goal

abbrev pub invariant-loop-col : goal.invariant-loop-col
invariant-loop-col l = l.best < l.columns
