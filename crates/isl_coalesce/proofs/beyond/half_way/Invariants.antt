use Rattle.std.proofs.Common.{◌≡◌, length}
use Rattle.isl_coalesce.proofs.beyond.half_way.Given as goal

abbrev pub invariant-loop-i : goal.invariant-loop-i
invariant-loop-i l = length l.point.items ≡ l.i
