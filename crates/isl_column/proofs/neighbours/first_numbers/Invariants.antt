use Rattle.std.proofs.Common.{pos, ◌≤ℤ◌, ◌<ℤ◌}
use Rattle.std.specs.List.{All}
use Rattle.isl_column.proofs.neighbours.first_numbers.Given as goal

abbrev pub invariant-loop-number : goal.invariant-loop-number
invariant-loop-number l = All (λ n. (pos 0 ≤ℤ n) × (n <ℤ pos l.count)) l.numbers.items
