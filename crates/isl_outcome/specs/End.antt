-- public: for what reason an evaluation ends without a value, or where its work may be cut; and which of two ends comes first. (the iscc
-- chapter of the barvinok manual)
use Rattle.std.specs.Prelude.{◌⊎◌, ◌<◌, ◌≤◌, List, length}
use Rattle.isl_space.specs.Limits.{most_parameters}
use Rattle.isl_space.specs.Name.{Name}
use Rattle.isl_refusal.specs.declared.refusal.Refusal.{Refusal}
use Rattle.isl_refusal.specs.declared.refusal.Refusal.TheVariants.{TooWide, NoMinimum, Nested, TimeShape, Unbounded, SeveralTimes}
use Rattle.isl_refusal.specs.declared.refusal.Refusal.TheVariants.{NoValuation, NotAssumed}

-- for what reason an evaluation ends, whatever its work uses
pub data Reason : Type 0 where
  -- operands have too many parameters together, or a space that is formed is too wide
  too_wide : Reason
  -- there is no least element, or no greatest one
  no_minimum : Reason
  -- what is to be visited is a pair
  nested : Reason
  -- times differ in shape
  time_shapes : Reason
  -- infinitely many elements are to be listed, or points to be visited
  unbounded : Reason
  -- a point is to be visited at several times
  several_times : Reason
  -- no valuation is left that is assumed
  no_valuation : Reason
  -- the valuation that is asked for is not assumed
  not_assumed : Reason

abbrev pub refusal_of_reason : Reason → Refusal
refusal_of_reason too_wide = TooWide
refusal_of_reason no_minimum = NoMinimum
refusal_of_reason nested = Nested
refusal_of_reason time_shapes = TimeShape
refusal_of_reason unbounded = Unbounded
refusal_of_reason several_times = SeveralTimes
refusal_of_reason no_valuation = NoValuation
refusal_of_reason not_assumed = NotAssumed

-- an evaluation ends for a reason; or its work may be cut here, where a number passes the limit, or the units are used up
pub data End : Type 0 where
  because : Reason → End
  cut : End

-- it does not end, nor is there work that may be cut
abbrev pub NoEnd : End → Type 0
NoEnd end = ⊥

-- there is work that may be cut, and nothing ends it
abbrev pub CutAlone : End → Type 0
CutAlone (because reason) = ⊥
CutAlone cut = Unit {0}

-- unless its work is cut, it does not end
abbrev pub GoesOn : (End → Type 0) → Type 0
GoesOn Ends = (reason : Reason) → ¬ Ends (because reason)

-- one of two ends, and the second only where the first goes on
abbrev pub FirstEnds : (End → Type 0) → (End → Type 0) → End → Type 0
FirstEnds A B end = A end ⊎ (GoesOn A × B end)

-- An operation over these parameters: too many of them, and else a space that is too wide; then what it looks for and is not there. Its
-- work begins where neither parameters nor spaces end it.
abbrev pub OperationEnds : List Name → Type 0 → Type 0 → End → Type 0
OperationEnds names Wide Misses (because too_wide) = (most_parameters < length names) ⊎ ((length names ≤ most_parameters) × Wide)
OperationEnds names Wide Misses (because no_minimum) = (length names ≤ most_parameters) × (¬ Wide) × Misses
OperationEnds names Wide Misses (because nested) = ⊥
OperationEnds names Wide Misses (because time_shapes) = ⊥
OperationEnds names Wide Misses (because unbounded) = ⊥
OperationEnds names Wide Misses (because several_times) = ⊥
OperationEnds names Wide Misses (because no_valuation) = ⊥
OperationEnds names Wide Misses (because not_assumed) = ⊥
OperationEnds names Wide Misses cut = (length names ≤ most_parameters) × (¬ Wide)
