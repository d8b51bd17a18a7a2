use Rattle.std.proofs.Common.{◌≡◌}
use Rattle.isl_blocks.specs.CaseRows.{same_rows}
use Rattle.isl_blocks.proofs.cases.same_rows.Given as goal

abbrev pub invariant-loop-i : goal.invariant-loop-i
invariant-loop-i l = l.rows ≡ same_rows l.columns l.first l.second l.i
