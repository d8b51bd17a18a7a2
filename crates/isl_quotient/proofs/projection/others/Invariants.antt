use Rattle.std.proofs.Common.{◌≡◌, take}
use Rattle.isl_elim.specs.Others.{others_of}
use Rattle.isl_quotient.proofs.projection.others.Given as goal

abbrev pub invariant-loop-other : goal.invariant-loop-other
invariant-loop-other l = l.left.items ≡ others_of l.col (take l.other-index l.cols)
