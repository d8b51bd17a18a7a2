-- public: how calls are cut.
use Rattle.std.specs.Prelude.{◌≡◌, ◌≢◌, Result, IfErr}
use Rattle.isl_meter.specs.Gauge.{Gauge, overflown}
use Rattle.isl_meter.specs.declared.Cut.{Cut}
use Rattle.isl_meter.specs.declared.Cut.TheVariants.{Overflow, Budget, NoMemory}

-- the cut is an overflow, for the reason P, which is counted, or want of memory
abbrev pub IsCutFor : Type 0 → Gauge → Gauge → Cut → Type 0
IsCutFor P old new Overflow = P × (new ≡ overflown old)
IsCutFor P old new Budget = ⊥
IsCutFor P old new NoMemory = new ≡ old

-- work did not end because a number passed the limit
abbrev pub IsNoOverflow : {A : Type 0} → Result A Cut → Type 0
IsNoOverflow result = IfErr result (λ cut. cut ≢ Overflow)
