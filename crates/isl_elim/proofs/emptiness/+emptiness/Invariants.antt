use Rattle.std.proofs.Common.{◌≡◌, ◌+◌, ◌-◌, ◌*◌, None}
use Rattle.isl_column.specs.Parts.{most_parts, IsHeadAlone}
use Rattle.isl_elim.proofs.EmptinessLaws.{IsSoFar}
use Rattle.isl_elim.proofs.emptiness.+emptiness.Given as goal

abbrev pub decreases-hold_nowhere : goal.decreases-hold_nowhere
decreases-hold_nowhere l = 4 * l.columns

abbrev pub decreases-column_out : goal.decreases-column_out
decreases-column_out l = 4 * l.columns - 1

abbrev pub decreases-rest_is_empty : goal.decreases-rest_is_empty
decreases-rest_is_empty l = 4 * l.columns - 2

abbrev pub decreases-are_empty : goal.decreases-are_empty
decreases-are_empty l = 4 * l.columns + 1

abbrev pub invariant-are_empty-loop-parts : goal.invariant-are_empty-loop-parts
invariant-are_empty-loop-parts l =
    IsSoFar l.fn.meter l.meter l.columns l.fn.parts l.parts × (IsHeadAlone None l.fn.parts → IsHeadAlone None l.parts × (l.meter ≡ l.fn.meter))

abbrev pub decreases-are_empty-loop-parts : goal.decreases-are_empty-loop-parts
decreases-are_empty-loop-parts l = most_parts l.parts
