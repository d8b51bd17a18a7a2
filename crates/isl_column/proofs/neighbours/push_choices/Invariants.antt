use Rattle.std.proofs.Common.{take}
use Rattle.isl_column.specs.Neighbours.{ArePushedFor}
use Rattle.isl_column.proofs.neighbours.push_choices.Given as goal

abbrev pub invariant-loop-i : goal.invariant-loop-i
invariant-loop-i l = ArePushedFor l.period l.level l.numbers (take l.i l.numbers) l.fn.choices.items l.choices.items
