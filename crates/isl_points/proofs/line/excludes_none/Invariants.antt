use Rattle.std.proofs.Common.{ℤ, take}
use Rattle.std.specs.List.{All}
use Rattle.isl_points.specs.Exclusion.{MeetsExclusion}
use Rattle.isl_points.proofs.line.excludes_none.Given as goal

abbrev pub invariant-loop-row : goal.invariant-loop-row
invariant-loop-row l = (x : ℤ) → All (MeetsExclusion x) (take l.row-index l.rows)
