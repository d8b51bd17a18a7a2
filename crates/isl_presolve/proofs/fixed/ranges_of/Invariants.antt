use Rattle.isl_presolve.specs.Fixed.{AreRanges}
use Rattle.isl_presolve.proofs.fixed.ranges_of.Given as goal

abbrev pub invariant-loop-row : goal.invariant-loop-row
invariant-loop-row l = AreRanges l.columns l.rows l.ranges.items
