use Rattle.std.proofs.Common.{◌≡◌, take, min}
use Rattle.isl_tower.specs.Weight.{tower_weight}
use Rattle.isl_tower.proofs.tower.weight_of.Given as goal

abbrev pub invariant-loop-level : goal.invariant-loop-level
invariant-loop-level l = l.weight ≡ min (tower_weight (take l.level-index l.levels)) 18446744073709551615
