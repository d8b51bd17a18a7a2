-- public: where the space that an operation forms is too wide, and why it then has no result.
use Rattle.std.specs.Prelude.{◌≡◌, ◌<◌, ◌≤◌, ◌⊎◌, List, Any, length}
use Rattle.isl_meter.specs.Gauge.{Gauge, IsCutBy}
use Rattle.isl_meter.specs.declared.Cut.TheVariants.{NoMemory}
use Rattle.isl_space.specs.Limits.{most_parameters}
use Rattle.isl_space.specs.Name.{Name}
use Rattle.isl_space.specs.SpaceForm.{SpaceForm, IsTooWideSpace}
use Rattle.isl_union.specs.KeptValue.{KeptValue}
use Rattle.isl_union.specs.declared.fault.OpFault.{OpFault}
use Rattle.isl_union.specs.declared.fault.OpFault.TheVariants as op_fault

-- some piece of the value lies in the space, so that the value has an element of it at some valuation
abbrev pub IsLiveIn : KeptValue → SpaceForm → Type 0
IsLiveIn value space = Any (λ piece. piece.space ≡ space) value.pieces

-- a space that an operation forms of one of the value's is too wide
abbrev pub FormsTooWide : (SpaceForm → SpaceForm → Type 0) → KeptValue → Type 0
FormsTooWide Forms a = (s : SpaceForm) × (formed : SpaceForm) × IsLiveIn a s × Forms s formed × IsTooWideSpace formed

-- a space that an operation forms of one of the first value's and one of the second's is too wide
abbrev pub PairsTooWide : (SpaceForm → SpaceForm → SpaceForm → Type 0) → KeptValue → KeptValue → Type 0
PairsTooWide Forms a b =
    (s : SpaceForm) × (t : SpaceForm) × (formed : SpaceForm) × IsLiveIn a s × IsLiveIn b t × Forms s t formed × IsTooWideSpace formed

-- Why an operation has no result. It has too many parameters, or forms a space that is too wide, which is asked next, and the meter is
-- as it was; or work was cut, and neither is so, unless memory ended.
abbrev pub IsFormFault : List Name → Type 0 → Gauge → Gauge → OpFault → Type 0
IsFormFault params Wide old new op_fault.TooWide = ((most_parameters < length params) ⊎ ((length params ≤ most_parameters) × Wide)) × (new ≡ old)
IsFormFault params Wide old new (op_fault.Cut cut) = (((length params ≤ most_parameters) × (¬ Wide)) ⊎ (cut ≡ NoMemory)) × IsCutBy old new cut

-- the same of an operation that uses no unit and works out no number
abbrev pub IsFormedFault : Type 0 → Gauge → Gauge → OpFault → Type 0
IsFormedFault Wide old new op_fault.TooWide = Wide × (new ≡ old)
IsFormedFault Wide old new (op_fault.Cut cut) = (cut ≡ NoMemory) × (new ≡ old)
