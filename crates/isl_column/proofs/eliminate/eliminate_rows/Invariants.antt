use Rattle.isl_column.specs.Parts.{most_parts}
use Rattle.isl_column.proofs.PartsLemmas.{AreAnswered}
use Rattle.isl_column.proofs.eliminate.eliminate_rows.Given as goal

abbrev pub invariant-loop-answers : goal.invariant-loop-answers
invariant-loop-answers l = AreAnswered l.fn.meter l.meter l.column.columns l.column.at l.rows l.answers.items l.parts

abbrev pub decreases-loop-answers : goal.decreases-loop-answers
decreases-loop-answers l = most_parts l.parts
