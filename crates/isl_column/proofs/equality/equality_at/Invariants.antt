use Rattle.isl_shadows.proofs.LeastEquality.{IsFound}
use Rattle.isl_column.proofs.equality.equality_at.Given as goal

abbrev pub invariant-loop-i : goal.invariant-loop-i
invariant-loop-i l = IsFound l.column.at l.rows l.i l.found
