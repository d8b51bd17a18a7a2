use Rattle.std.proofs.Common.{◌≡◌, ◌++◌, pos, replicate}
use Rattle.isl_quotient.proofs.opened.padded.Given as goal

abbrev pub invariant-loop-i : goal.invariant-loop-i
invariant-loop-i l = l.wide ≡ l.fn.coefs ++ replicate l.i (pos 0)
