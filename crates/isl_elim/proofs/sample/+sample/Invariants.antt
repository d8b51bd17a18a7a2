use Rattle.std.proofs.Common.{◌≡◌, ◌≤◌, ℕ, ◌+◌, ◌*◌}
use Rattle.isl_column.specs.Parts.{most_parts}
use Rattle.isl_elim.specs.Tame.{IsDifferenceHead}
use Rattle.isl_elim.proofs.EmptinessLaws.{IsSoFar}
use Rattle.isl_elim.proofs.SampleLaws.{IsHeadTried}
use Rattle.isl_elim.proofs.sample.+sample.Given as goal

abbrev pub decreases-sample_columns : goal.decreases-sample_columns
decreases-sample_columns l = 3 * l.columns

abbrev pub decreases-sample_rows : goal.decreases-sample_rows
decreases-sample_rows l = 3 * l.columns + 1

abbrev pub decreases-sample_parts : goal.decreases-sample_parts
decreases-sample_parts l = 3 * l.columns + 2

abbrev pub invariant-sample_parts-loop-parts : goal.invariant-sample_parts-loop-parts
invariant-sample_parts-loop-parts l = IsSoFar l.fn.meter l.meter l.columns l.fn.parts l.parts
    × ((bits : ℕ) → l.fn.meter.bits ≡ 127 → bits + l.columns ≤ 120 → IsDifferenceHead l.fn.parts bits → IsHeadTried l.fn.meter l.meter l.columns bits l.parts)

abbrev pub decreases-sample_parts-loop-parts : goal.decreases-sample_parts-loop-parts
decreases-sample_parts-loop-parts l = most_parts l.parts
