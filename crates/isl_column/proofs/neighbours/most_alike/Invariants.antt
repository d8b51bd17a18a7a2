use Rattle.std.proofs.Common.{take}
use Rattle.isl_shadows.proofs.CountLemmas.{AreAtMost}
use Rattle.isl_column.proofs.neighbours.most_alike.Given as goal

abbrev pub invariant-loop-number : goal.invariant-loop-number
invariant-loop-number l = AreAtMost l.numbers l.most (take l.number-index l.numbers)
