use Rattle.std.proofs.Common.{◌≡◌, ◌++◌, take}
use Rattle.isl_plain.proofs.brackets.joined.Given as goal

abbrev pub invariant-loop-number : goal.invariant-loop-number
invariant-loop-number l = l.joined ≡ take l.number-index l.numbers

abbrev pub invariant-loop-other : goal.invariant-loop-other
invariant-loop-other l = l.joined ≡ l.numbers ++ take l.other-index l.more
