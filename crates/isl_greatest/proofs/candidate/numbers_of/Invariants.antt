use Rattle.std.proofs.Common.{◌≡◌, take}
use Rattle.isl_greatest.proofs.candidate.numbers_of.Given as goal

abbrev pub invariant-loop-coef : goal.invariant-loop-coef
invariant-loop-coef l = l.numbers.items ≡ take l.coef-index l.coefs
