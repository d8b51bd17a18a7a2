use Rattle.std.proofs.Common.{◌≡◌, take, pos}
use Rattle.std.specs.List.{All}
use Rattle.isl_redundant.proofs.certificate.are_zero.Given as goal

abbrev pub invariant-loop-number : goal.invariant-loop-number
invariant-loop-number l = All (λ c. c ≡ pos 0) (take l.number-index l.numbers)
