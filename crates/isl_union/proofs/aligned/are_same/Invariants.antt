use Rattle.std.proofs.Common.{◌≡◌, take, length}
use Rattle.isl_union.proofs.aligned.are_same.Given as goal

abbrev pub invariant-loop-i : goal.invariant-loop-i
invariant-loop-i l = (take l.i l.a ≡ take l.i l.b) × (length l.a ≡ length l.b)
