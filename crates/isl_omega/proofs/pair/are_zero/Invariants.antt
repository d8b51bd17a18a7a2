use Rattle.std.proofs.Common.{◌≡◌, take, pos}
use Rattle.std.specs.List.{All}
use Rattle.isl_omega.proofs.pair.are_zero.Given as goal

abbrev pub invariant-loop-number : goal.invariant-loop-number
invariant-loop-number l = All (λ z. z ≡ pos 0) (take l.number-index l.numbers)
