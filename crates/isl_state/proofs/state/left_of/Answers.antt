use Rattle.std.proofs.Common.{◌∙◌, [], refl, sym, subst, rules}
use Rattle.isl_meter.proofs.CutLemmas.{IsCharged_refl, IsCharged_trans}
use Rattle.isl_assumed.proofs.MeterLaws.{sound_later}
use Rattle.isl_outcome.proofs.PaidLaws.{unmade_later}
use Rattle.isl_state.proofs.LeftLaws.{left_all, left_next, numbers_next, IsLeftSoFar}
use Rattle.isl_state.proofs.NarrowLaws.{left_refused}
use Rattle.isl_state.proofs.state.left_of.Goals as goal

pub loop-name-init : goal.loop-name-init
loop-name-init c = record {
  done = [];
  split = sym (c.into_iter-name-iterator.ensures.into_iter_gives ∙ c.iter-name-items.ensures.rest);
  are = c.new-left.ensures.empty;
  charged = IsCharged_refl c.args.meter.now c.args.meter.now refl;
}

pub left-requires-clause-numbers : goal.left-requires-clause-numbers
left-requires-clause-numbers c =
    numbers_next c.args.assumed.now c.args.meter.now c.loop-name.meter c.args.bound.now.entries (c.in-Some.name.now, c.in-Some.kept.now)
    c.loop-name.name-iterator c.next.new.self c.loop-name.left.entries c.in-Some.ensures.steps c.loop-name.invariant c.requires.numbers

pub left-requires-clause-sound : goal.left-requires-clause-sound
left-requires-clause-sound c =
    sound_later c.args.meter.now c.loop-name.meter c.args.assumed.now c.loop-name.invariant.charged c.requires.sound

pub returns-in_err-kept : goal.returns-in_err-kept
returns-in_err-kept c =
    left_refused c.from_residual.result _ c.args.meter.now c.loop-name.meter c.left.new.meter c.in_err-kept.field-0.0 (search rules)
    c.loop-name.invariant.charged c.in_err-kept.ensures

pub returns-in_err-reserve : goal.returns-in_err-reserve
returns-in_err-reserve c =
    unmade_later c.from_residual-in_err-reserve.result _ c.args.meter.now c.left.new.meter (search rules)
    (IsCharged_trans c.args.meter.now c.loop-name.meter c.left.new.meter c.loop-name.invariant.charged c.in_ok-kept.ensures.1)

pub returns-in_err-copy : goal.returns-in_err-copy
returns-in_err-copy c =
    unmade_later c.from_residual-in_err-copy.result _ c.args.meter.now c.left.new.meter (search rules)
    (IsCharged_trans c.args.meter.now c.loop-name.meter c.left.new.meter c.loop-name.invariant.charged c.in_ok-kept.ensures.1)

pub loop-name-preserved-in-Ok : goal.loop-name-preserved-in-Ok
loop-name-preserved-in-Ok c =
    left_next c.args.assumed.now c.args.meter.now c.loop-name.meter c.args.bound.now.entries (c.in-Some.name.now, c.in-Some.kept.now)
    c.loop-name.name-iterator c.next.new.self c.loop-name.left.entries c.in-Some.ensures.steps c.loop-name.invariant
    c.iter-name-items.ensures.unique c.left.new.meter c.reserve.new.self c.in_ok-copy.field-0 c.in_ok-kept.kept c.insert.new.self.entries
    c.in_ok-reserve.ensures.entries c.in_ok-copy.ensures c.in-Ok.ensures.entries c.in_ok-kept.ensures.0 c.in_ok-kept.ensures.1

pub loop-name-preserved-in-Ok-2 : goal.loop-name-preserved-in-Ok-2
loop-name-preserved-in-Ok-2 c =
    left_next c.args.assumed.now c.args.meter.now c.loop-name.meter c.args.bound.now.entries (c.in-Some.name.now, c.in-Some.kept.now)
    c.loop-name.name-iterator c.next.new.self c.loop-name.left.entries c.in-Some.ensures.steps c.loop-name.invariant
    c.iter-name-items.ensures.unique c.left.new.meter c.reserve.new.self c.in_ok-copy.field-0 c.in_ok-kept.kept c.insert.new.self.entries
    c.in_ok-reserve.ensures.entries c.in_ok-copy.ensures c.in-Ok.ensures.entries c.in_ok-kept.ensures.0 c.in_ok-kept.ensures.1

pub loop-name-preserved-in-Ok-3 : goal.loop-name-preserved-in-Ok-3
loop-name-preserved-in-Ok-3 c =
    left_next c.args.assumed.now c.args.meter.now c.loop-name.meter c.args.bound.now.entries (c.in-Some.name.now, c.in-Some.kept.now)
    c.loop-name.name-iterator c.next.new.self c.loop-name.left.entries c.in-Some.ensures.steps c.loop-name.invariant
    c.iter-name-items.ensures.unique c.left.new.meter c.reserve.new.self c.in_ok-copy.field-0 c.in_ok-kept.kept c.insert.new.self.entries
    c.in_ok-reserve.ensures.entries c.in_ok-copy.ensures c.in-Ok.ensures.entries c.in_ok-kept.ensures.0 c.in_ok-kept.ensures.1

pub loop-name-preserved : goal.loop-name-preserved
loop-name-preserved c =
    left_next c.args.assumed.now c.args.meter.now c.loop-name.meter c.args.bound.now.entries (c.in-Some.name.now, c.in-Some.kept.now)
    c.loop-name.name-iterator c.next.new.self c.loop-name.left.entries c.in-Some.ensures.steps c.loop-name.invariant
    c.iter-name-items.ensures.unique c.left.new.meter c.reserve.new.self c.in_ok-copy.field-0 c.in_ok-kept.kept c.insert.new.self.entries
    c.in_ok-reserve.ensures.entries c.in_ok-copy.ensures c.in-Ok.ensures.entries c.in_ok-kept.ensures.0 c.in_ok-kept.ensures.1

pub returns : goal.returns
returns c = (
  left_all c.args.assumed.now c.args.meter.now c.loop-name.meter c.args.bound.now.entries c.loop-name.left.entries
      (subst (λ rest. IsLeftSoFar c.args.assumed.now c.args.meter.now c.loop-name.meter c.args.bound.now.entries rest
      c.loop-name.left.entries) c.in-None.ensures.steps.0 c.loop-name.invariant),
  c.loop-name.invariant.charged,
)
