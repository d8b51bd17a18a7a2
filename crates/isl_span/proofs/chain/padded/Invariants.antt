use Rattle.std.proofs.Common.{◌≡◌, ◌++◌, pos, replicate}
use Rattle.isl_span.proofs.chain.padded.Given as goal

abbrev pub invariant-loop-column : goal.invariant-loop-column
invariant-loop-column l = l.coefs ≡ l.initial.coefs ++ replicate l._column (pos 0)
