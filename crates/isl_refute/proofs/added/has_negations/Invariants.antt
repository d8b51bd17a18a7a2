use Rattle.std.proofs.Common.{◌≡◌, ◌+◌, length, take}
use Rattle.isl_refute.specs.Refutes.{negations}
use Rattle.isl_refute.proofs.added.has_negations.Given as goal

abbrev pub invariant-loop-row : goal.invariant-loop-row
invariant-loop-row l = l.left + length (negations l.columns (take l.row-index l.rows)) ≡ l.count
