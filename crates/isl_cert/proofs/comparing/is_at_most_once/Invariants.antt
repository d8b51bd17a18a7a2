use Rattle.isl_cert.proofs.SoughtLaws.{IsSought}
use Rattle.isl_cert.proofs.comparing.is_at_most_once.Given as goal

abbrev pub invariant-loop-number : goal.invariant-loop-number
invariant-loop-number l = IsSought l.sought l.numbers l.number-index l.seen
