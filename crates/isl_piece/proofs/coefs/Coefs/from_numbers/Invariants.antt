use Rattle.std.proofs.Common.{◌≡◌, take}
use Rattle.isl_piece.proofs.coefs.Coefs.from_numbers.Given as goal

abbrev pub invariant-loop-number : goal.invariant-loop-number
invariant-loop-number l = l.coefs ≡ take l.number-index l.numbers
