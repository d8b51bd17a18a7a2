use Rattle.std.proofs.Common.{◌≡◌, ◌++◌, map, take}
use Rattle.isl_span.specs.Chain.{padded}
use Rattle.isl_span.proofs.chain.push_padded.Given as goal

abbrev pub invariant-loop-other : goal.invariant-loop-other
invariant-loop-other l = l.rows ≡ l.fn.rows ++ map (padded l.columns) (take l.other-index l.others)
