use Rattle.isl_elim.specs.Narrow.{AreFreeBelow}
use Rattle.isl_elim.proofs.narrow.are_free.Given as goal

abbrev pub invariant-loop-at : goal.invariant-loop-at
invariant-loop-at l = AreFreeBelow l.rows l.narrow l.at
