use Rattle.std.proofs.Common.{inr, refl, rules, sym, subst, true}
use Rattle.isl_meter.specs.Gauge.{IsCharged}
use Rattle.isl_space.specs.Names.{joined}
use Rattle.isl_union.specs.Fault.{IsFaultBy}
use Rattle.isl_assumed.specs.Assumed.{names_of}
use Rattle.isl_outcome.specs.End.{no_valuation, too_wide}
use Rattle.isl_outcome.proofs.PaidLaws.{paid_same, paid_works}
use Rattle.isl_assumed.proofs.MeterLaws.{sound_later}
use Rattle.isl_state.proofs.state.narrowed.Goals as goal

pub is_empty-requires : goal.is_empty-requires
is_empty-requires c = sound_later c.args.meter.now c.meet.new.meter c.in-Ok.met c.in-Ok.ensures.units.1 c.in-Ok.ensures.sound

pub returns-in-Err-TooWide-clause-why : goal.returns-in-Err-TooWide-clause-why
returns-in-Err-TooWide-clause-why c =
    let g = c.args.meter.now in
    let names = joined (names_of c.args.assumed.now) (names_of c.args.set.now) in
    let wide = subst (IsFaultBy names g c.meet.new.meter) c.in-Err-TooWide.field-0-is c.in-Err-TooWide.ensures.units in
    inr (too_wide, refl, wide.0, paid_same true g c.meet.new.meter wide.1)

pub returns-in-Ok-true-clause-why : goal.returns-in-Ok-true-clause-why
returns-in-Ok-true-clause-why c =
    let g = c.args.meter.now in
    let met = c.in-Ok.ensures in
    inr (
      no_valuation,
      refl,
      (met.units.0, (λ v here p. c.in-Ok-true.ensures.exact.0 (search rules) v ((met.valuations v).1 (here, p)))),
      paid_works g c.is_empty.new.meter (subst (IsCharged g) (sym c.is_empty.ensures.meter) met.units.1),
    )
