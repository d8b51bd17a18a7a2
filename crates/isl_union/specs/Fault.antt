-- public: why operations on values have no result.
use Rattle.std.specs.Prelude.{◌≡◌, ◌<◌, ◌≤◌, ◌⊎◌, ◌+◌, ℕ, List, MatchResult, Result, length}
use Rattle.isl_meter.specs.Gauge.{Gauge, IsCharged, IsCutBy}
use Rattle.isl_meter.specs.declared.Cut.{Cut}
use Rattle.isl_meter.specs.declared.Cut.TheVariants.{NoMemory}
use Rattle.isl_space.specs.Limits.{most_parameters}
use Rattle.isl_space.specs.Name.{Name}
use Rattle.isl_space.specs.declared.fault.SpaceFault.{SpaceFault}
use Rattle.isl_space.specs.declared.fault.SpaceFault.TheVariants as space_fault
use Rattle.isl_union.specs.declared.fault.OpFault.{OpFault}
use Rattle.isl_union.specs.declared.fault.OpFault.TheVariants as op_fault

-- what a fault of a space is to an operation
abbrev pub fault_of : SpaceFault → OpFault
fault_of space_fault.TooWide = op_fault.TooWide
fault_of space_fault.NoMemory = op_fault.Cut NoMemory

-- the parameters are more than the limit, or memory ended
abbrev pub IsPlainFault : List Name → OpFault → Type 0
IsPlainFault params op_fault.TooWide = most_parameters < length params
IsPlainFault params (op_fault.Cut cut) = cut ≡ NoMemory

-- at least n units were used, and nothing else happened
pub record IsChargedFrom (n : ℕ) (old new : Gauge) : Type 0 where
  pub charged : IsCharged old new
  pub least : old.units + n ≤ new.units

-- what a call leaves that works under a meter and uses at least n units for its answer
abbrev pub IsMeteredFrom : {A : Type 0} → ℕ → Gauge → Gauge → Result A Cut → Type 0
IsMeteredFrom n old new result = MatchResult result (λ _. IsChargedFrom n old new) (IsCutBy old new)

-- the parameters are more than the limit, and the meter is as it was; or work was cut, and they are not more, unless memory ended
abbrev pub IsFaultBy : List Name → Gauge → Gauge → OpFault → Type 0
IsFaultBy params old new op_fault.TooWide = (most_parameters < length params) × (new ≡ old)
IsFaultBy params old new (op_fault.Cut cut) = ((length params ≤ most_parameters) ⊎ (cut ≡ NoMemory)) × IsCutBy old new cut

-- work was cut, and nothing is too wide
abbrev pub IsCutFault : Gauge → Gauge → OpFault → Type 0
IsCutFault old new op_fault.TooWide = ⊥
IsCutFault old new (op_fault.Cut cut) = IsCutBy old new cut

-- what an operation leaves by which nothing is too wide: an answer, and units alone were used; or work was cut
abbrev pub IsMeteredAnswer : {A : Type 0} → Gauge → Gauge → Result A OpFault → Type 0
IsMeteredAnswer old new result = MatchResult result (λ _. IsCharged old new) (IsCutFault old new)
