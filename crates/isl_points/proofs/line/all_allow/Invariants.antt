use Rattle.std.proofs.Common.{◌≡◌, take}
use Rattle.std.specs.List.{All}
use Rattle.isl_points.specs.Exclusion.{MeetsExclusion}
use Rattle.isl_points.proofs.line.all_allow.Given as goal

abbrev pub invariant-loop-row : goal.invariant-loop-row
invariant-loop-row l = All (MeetsExclusion l.x) (take l.row-index l.rows) × (l.meter ≡ l.fn.meter)
