use Rattle.std.proofs.Common.{◌≡◌, take, min}
use Rattle.isl_tower.specs.Weight.{level_weight}
use Rattle.isl_tower.proofs.level.Level.weight.Given as goal

abbrev pub invariant-loop-system : goal.invariant-loop-system
invariant-loop-system l = l.weight ≡ min (level_weight (take l.system-index l.self)) 18446744073709551615
