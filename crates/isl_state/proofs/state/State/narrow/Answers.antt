use Rattle.std.proofs.Common.{◌∙◌, ap, arith, rules, subst, sym}
use Rattle.std.proofs.lemmas.List.Elements.{All-nil}
use Rattle.isl_meter.specs.Gauge.{limit_of}
use Rattle.isl_kinds.proofs.ForgetLaws.{IsPlain}
use Rattle.isl_assumed.specs.Assumed.{names_of, Assumes}
use Rattle.isl_assumed.proofs.MeterLaws.{sound_later}
use Rattle.isl_state.specs.State.{Fits, IsSettled, StateView}
use Rattle.isl_state.proofs.LeftLaws.{left_settled, left_types}
use Rattle.isl_state.proofs.NarrowLaws.{fits_narrowed, narrow_refused, numbers_bound, sound_at}
use Rattle.isl_state.proofs.state.State.narrow.Goals as goal

pub left_of-requires-clause-numbers : goal.left_of-requires-clause-numbers
left_of-requires-clause-numbers c =
    let before : StateView = record { bound = c.self.inside.bound.entries; assumed = c.self.inside.assumed } in
    numbers_bound c.args.meter.now c.narrowed.new.meter before c.in_ok-assumed.ensures.why c.len-names.ensures.unique
    (subst (Fits (limit_of c.args.meter.now)) (sym c.self.view_is) c.requires.fits)

pub left_of-requires-clause-sound : goal.left_of-requires-clause-sound
left_of-requires-clause-sound c =
    sound_later c.args.meter.now c.narrowed.new.meter c.in_ok-assumed.assumed c.in_ok-assumed.ensures.why c.in_ok-assumed.ensures.met.sound

pub returns-in_err-left-clause-why : goal.returns-in_err-left-clause-why
returns-in_err-left-clause-why c =
    narrow_refused c.from_residual-in_err-left.result _ c.self.inside.assumed c.args.self.now.assumed (names_of c.args.set.now)
    (Assumes c.args.set.now) c.args.meter.now c.narrowed.new.meter c.left_of.new.meter c.in_err-left.field-0.0 (search rules)
    (ap (λ (state : StateView). state.assumed) c.self.view_is) c.in_ok-assumed.ensures.goes_on c.in_ok-assumed.ensures.why
    c.in_err-left.ensures

pub invariant_of-self : goal.invariant_of-self
invariant_of-self c = (
  c.self.invariant.0
      ∙ sym (left_types c.in_ok-assumed.assumed c.self.inside.bound.entries c.in_ok-left.left.entries c.in_ok-left.ensures.0),
  omega arith,
  All-nil IsPlain,
)

pub returns-clause-fits : goal.returns-clause-fits
returns-clause-fits c =
    let g = c.args.meter.now in
    let before : StateView = record { bound = c.self.inside.bound.entries; assumed = c.self.inside.assumed } in
    let after : StateView = record { bound = c.in_ok-left.left.entries; assumed = c.in_ok-assumed.assumed } in
    let fits = subst (Fits (limit_of g)) (sym c.self.view_is) c.requires.fits in
    let met = c.in_ok-assumed.ensures.met in
    fits_narrowed (limit_of g) before after c.in_ok-left.ensures.0 fits (met.plain fits.plain c.requires.plain)
    (sound_at g c.in_ok-assumed.assumed met.sound)

pub returns-clause-settled : goal.returns-clause-settled
returns-clause-settled c =
    λ settled. left_settled c.in_ok-assumed.assumed c.self.inside.bound.entries c.in_ok-left.left.entries c.in_ok-left.ensures.0
    (subst IsSettled (sym c.self.view_is) settled)
