use Rattle.std.proofs.Common.{◌≡◌, take, min, sum_by}
use Rattle.isl_scan.specs.Weight.{weight}
use Rattle.isl_scan.proofs.group.weight_of.Given as goal

abbrev pub invariant-loop-group : goal.invariant-loop-group
invariant-loop-group l = l.weight ≡ min (sum_by weight (take l.group-index l.groups)) 18446744073709551615
