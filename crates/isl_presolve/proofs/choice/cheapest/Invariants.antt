use Rattle.std.proofs.Common.{◌<◌, length}
use Rattle.isl_presolve.proofs.choice.cheapest.Given as goal

abbrev pub invariant-loop-i : goal.invariant-loop-i
invariant-loop-i l = l.best < length l.cols
