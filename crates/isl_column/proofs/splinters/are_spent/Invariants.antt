use Rattle.std.proofs.Common.{take, pos, ◌<ℤ◌}
use Rattle.std.specs.List.{All}
use Rattle.isl_column.proofs.splinters.are_spent.Given as goal

abbrev pub invariant-loop-tail : goal.invariant-loop-tail
invariant-loop-tail l = All (λ t. t.last <ℤ pos 0) (take l.tail-index l.tails)
