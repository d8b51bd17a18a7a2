use Rattle.std.proofs.Common.{◌≡◌, drop, take}
use Rattle.isl_piece.specs.Numbers.{opposite}
use Rattle.isl_piece.proofs.numbers.oppose.Given as goal

abbrev pub invariant-loop-i : goal.invariant-loop-i
invariant-loop-i l = (take l.i l.numbers ≡ opposite l.k (take l.i l.initial.numbers)) × (drop l.i l.numbers ≡ drop l.i l.initial.numbers)
