use Rattle.std.proofs.Common.{◌≡◌, take}
use Rattle.isl_shadows.specs.Neighbours.{others_than}
use Rattle.isl_column.proofs.neighbours.others_than.Given as goal

abbrev pub invariant-loop-other : goal.invariant-loop-other
invariant-loop-other l = l.others.items ≡ others_than l.period l.fn.number (take l.other-index l.numbers)
