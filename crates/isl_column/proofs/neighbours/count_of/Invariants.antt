use Rattle.std.proofs.Common.{◌≡◌, ◌≤◌, length, take}
use Rattle.std.specs.List.{filter}
use Rattle.std.specs.Ordering.{int_eq}
use Rattle.isl_column.proofs.neighbours.count_of.Given as goal

abbrev pub invariant-loop-other : goal.invariant-loop-other
invariant-loop-other l =
    (l.count ≡ length (filter (λ n. int_eq n l.fn.number) (take l.other-index l.numbers))) × (l.count ≤ l.other-index)
