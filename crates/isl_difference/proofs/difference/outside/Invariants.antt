use Rattle.std.proofs.Common.{map, take}
use Rattle.isl_difference.proofs.DifferenceLaws.{AreLeft}
use Rattle.isl_difference.proofs.difference.outside.Given as goal

abbrev pub invariant-loop-other : goal.invariant-loop-other
invariant-loop-other l = AreLeft l.fn.meter l.meter l.system (take l.other-index (map (λ other. other.now) l.others)) l.left.items
