use Rattle.std.proofs.Common.{◌≡◌, map, take}
use Rattle.isl_math.specs.Divide.{floor_mod}
use Rattle.isl_column.proofs.neighbours.rests_of.Given as goal

abbrev pub invariant-loop-number : goal.invariant-loop-number
invariant-loop-number l = l.rests.items ≡ map (λ n. floor_mod n l.period) (take l.number-index l.numbers)
