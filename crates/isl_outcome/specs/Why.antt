-- public: what is paid, and why there is no value.
use Rattle.std.specs.Prelude.{◌≡◌, ◌⊎◌, Bool, false}
use Rattle.isl_meter.specs.Gauge.{Gauge, IsCharged, IsCutBy}
use Rattle.isl_meter.specs.declared.Cut.{Cut}
use Rattle.isl_meter.specs.declared.Cut.TheVariants as cuts
use Rattle.isl_refusal.specs.declared.refusal.Refusal.{Refusal}
use Rattle.isl_refusal.specs.declared.refusal.Refusal.TheVariants.{Overflow, Budget, NoMemory}
use Rattle.isl_outcome.specs.End.{End, Reason, because, refusal_of_reason}
use Rattle.isl_outcome.specs.End as ends

-- units alone were used, and where nothing uses units the meter is as it was
pub record IsPaid (works : Bool) (old new : Gauge) : Type 0 where
  pub charged : IsCharged old new
  pub free : works ≡ false → new ≡ old

-- what refuses a statement whose work was cut
abbrev pub refusal_of_cut : Cut → Refusal
refusal_of_cut cuts.Overflow = Overflow
refusal_of_cut cuts.Budget = Budget
refusal_of_cut cuts.NoMemory = NoMemory

-- Why no value was made: work was cut, at an operation to which the evaluation goes on, and which nothing ends before its work; want of
-- memory may come anywhere. Where nothing uses units memory ended, and the meter is as it was.
pub record IsWhyUnmade (works : Bool) (Ends : End → Type 0) (old new : Gauge) (refusal : Refusal) : Type 0 where
  pub cut : Cut
  pub is : refusal ≡ refusal_of_cut cut
  pub by : IsCutBy old new cut
  pub there : (cut ≡ cuts.NoMemory) ⊎ Ends ends.cut
  pub free : works ≡ false → (cut ≡ cuts.NoMemory) × (new ≡ old)

-- why no value was worked out: none was made; or the evaluation ends for this reason, and units alone were used
abbrev pub IsWhyUnworked : Bool → (End → Type 0) → Gauge → Gauge → Refusal → Type 0
IsWhyUnworked works Ends old new refusal =
    IsWhyUnmade works Ends old new refusal
    ⊎ ((reason : Reason) × (refusal ≡ refusal_of_reason reason) × Ends (because reason) × IsPaid works old new)
