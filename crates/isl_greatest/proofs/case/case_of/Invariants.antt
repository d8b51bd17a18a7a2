use Rattle.std.proofs.Common.{◌≡◌, take}
use Rattle.isl_greatest.proofs.PartsLaws.{AreTaken}
use Rattle.isl_greatest.proofs.case.case_of.Given as goal

abbrev pub invariant-loop-row : goal.invariant-loop-row
invariant-loop-row l = AreTaken l.fn.meter l.column (take l.row-index l.rows) l.parts × (l.meter ≡ l.fn.meter)
