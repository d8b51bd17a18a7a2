use Rattle.std.proofs.Common.{◌≡◌, ◌++◌, take}
use Rattle.isl_points.specs.Flat.{laid_out}
use Rattle.isl_points.specs.Level.{behind}
use Rattle.isl_points.proofs.level.push_each.Given as goal

abbrev pub invariant-loop-x : goal.invariant-loop-x
invariant-loop-x l = l.longer.items ≡ l.fn.longer.items ++ laid_out (behind l.prefix (take l.x-index l.numbers))
