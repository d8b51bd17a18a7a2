use Rattle.std.proofs.Common.{◌≡◌, take, min}
use Rattle.isl_difference.specs.Weight.{weight}
use Rattle.isl_difference.proofs.lists.weight_of.Given as goal

abbrev pub invariant-loop-one : goal.invariant-loop-one
invariant-loop-one g l = l.weight ≡ min (weight g.T.Weighed.weighed (take l.one-index l.list)) 18446744073709551615
