use Rattle.isl_column.specs.Neighbours.{AreEnough}
use Rattle.isl_column.proofs.neighbours.are_met.Given as goal

abbrev pub invariant-loop-used : goal.invariant-loop-used
invariant-loop-used l = AreEnough l.column.columns l.column.at l.rows l.choices.items l.fn.numbers.items
