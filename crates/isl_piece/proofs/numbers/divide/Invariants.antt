use Rattle.std.proofs.Common.{◌≡◌, drop, take}
use Rattle.isl_piece.specs.Numbers.{divided}
use Rattle.isl_piece.proofs.numbers.divide.Given as goal

abbrev pub invariant-loop-i : goal.invariant-loop-i
invariant-loop-i l = (take l.i l.numbers ≡ divided l.g (take l.i l.initial.numbers)) × (drop l.i l.numbers ≡ drop l.i l.initial.numbers)
