-- public: why a value has no loops. (isl manual, on code generation)
use Rattle.isl_meter.specs.Gauge.{Gauge, IsCharged, IsCutBy}
use Rattle.std.specs.Prelude.{◌≡◌}
use Rattle.isl_union.specs.Finite.{IsFinite}
use Rattle.isl_union.specs.KeptValue.{KeptValue}
use Rattle.isl_schedule.specs.Schedule.{HasNested, HasOneTimeForm, HasSingleTimes}
use Rattle.isl_schedule.specs.declared.fault.GenFault.{GenFault}
use Rattle.isl_schedule.specs.declared.fault.GenFault.TheVariants.{Nested, TimeShape, Unbounded, SeveralTimes, Cut}

-- The first of these that is so, in this order: a pair is visited; times differ in form; at some valuation infinitely many points are
-- visited; at some valuation a point has two times. The first two are found before any work is done; or else it was cut.
abbrev pub IsRefused : KeptValue → Gauge → Gauge → GenFault → Type 0
IsRefused value old new Nested = HasNested value × (new ≡ old)
IsRefused value old new TimeShape = (¬ HasNested value) × (¬ HasOneTimeForm value) × (new ≡ old)
IsRefused value old new Unbounded = (¬ HasNested value) × HasOneTimeForm value × (¬ IsFinite value) × IsCharged old new
IsRefused value old new SeveralTimes =
    (¬ HasNested value) × HasOneTimeForm value × IsFinite value × (¬ HasSingleTimes value) × IsCharged old new
IsRefused value old new (Cut cut) = (¬ HasNested value) × HasOneTimeForm value × IsCutBy old new cut
