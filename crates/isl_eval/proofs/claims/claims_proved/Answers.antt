use Rattle.std.proofs.Common.{◌≡◌, ◌∙◌, All, Contains, List, ap₂, refl, rules, string_bytes, subst, sym}
use Rattle.std.specs.Prelude.{unsigned_abs}
use Rattle.isl_meter.proofs.CutLemmas.{IsCharged_refl, IsCharged_trans}
use Rattle.isl_meter.specs.Gauge.{limit_of}
use Rattle.isl_space.specs.Name.{Name}
use Rattle.isl_space.specs.Names.{joined}
use Rattle.isl_union.specs.KeptValue.{KeptValue, Has, IsKeptValue}
use Rattle.isl_values.proofs.ValueLaws.{numbers_later, paid_works}
use Rattle.isl_state.specs.Live.{narrows}
use Rattle.isl_values.specs.State.{HasNumbersUpTo}
use Rattle.isl_eval.specs.Evaluation.{EndsTwo}
use Rattle.isl_eval.proofs.AssumedLaws.{both_are, left_among, right_among}
use Rattle.isl_kinds.specs.Typed.{joined_names}
use Rattle.isl_eval.proofs.ProvedLaws.{declared_here, joined_here, left_part, right_part, shown_claims, shows_here, why_copied}
use Rattle.isl_eval.proofs.TestLaws.{at_deref, refused, two_fault, unworked_on}
use Rattle.isl_eval.proofs.claims.claims_proved.Goals as goal

pub both_under-requires-clause-left : goal.both_under-requires-clause-left
both_under-requires-clause-left c =
    subst (HasNumbersUpTo (unsigned_abs (limit_of c.args.meter.now))) (sym c.in_ok-clone.ensures.cases) c.requires.left

pub both_under-requires-clause-right : goal.both_under-requires-clause-right
both_under-requires-clause-right c =
    subst (HasNumbersUpTo (unsigned_abs (limit_of c.args.meter.now))) (sym c.in_ok-clone-2.ensures.cases) c.requires.right

pub both_under-requires-clause-left_kept : goal.both_under-requires-clause-left_kept
both_under-requires-clause-left_kept c = subst IsKeptValue (sym c.in_ok-clone.ensures.cases) c.requires.left_kept

pub both_under-requires-clause-right_kept : goal.both_under-requires-clause-right_kept
both_under-requires-clause-right_kept c = subst IsKeptValue (sym c.in_ok-clone-2.ensures.cases) c.requires.right_kept

pub both_lines-requires-clause-left_kept : goal.both_lines-requires-clause-left_kept
both_lines-requires-clause-left_kept c = subst IsKeptValue (sym c.deref.ensures) c.requires.left_kept

pub both_lines-requires-clause-right_kept : goal.both_lines-requires-clause-right_kept
both_lines-requires-clause-right_kept c = subst IsKeptValue (sym c.deref-2.ensures) c.requires.right_kept

pub both_lines-requires-clause-left_declared : goal.both_lines-requires-clause-left_declared
both_lines-requires-clause-left_declared c =
    let left = c.args.left.value in
    let right = c.args.right.value in
    let assumed = c.args.state.now.assumed in
    let both = rw (c.in_ok-clone.ensures.cases, c.in_ok-clone-2.ensures.cases) at c.in_ok-under.ensures in
    let names = joined_here assumed left right c.requires.left_kept c.requires.right_kept c.deref.result.now c.deref-2.result.now
    c.deref.ensures c.deref-2.ensures in
    declared_here assumed _ _ left c.in_ok-under.under.left.value c.deref-3.result.now names
    (left_among assumed left right c.requires.left_kept c.requires.right_kept) both.0.under c.deref-3.ensures

pub both_lines-requires-clause-right_declared : goal.both_lines-requires-clause-right_declared
both_lines-requires-clause-right_declared c =
    let left = c.args.left.value in
    let right = c.args.right.value in
    let assumed = c.args.state.now.assumed in
    let both = rw (c.in_ok-clone.ensures.cases, c.in_ok-clone-2.ensures.cases) at c.in_ok-under.ensures in
    let names = joined_here assumed left right c.requires.left_kept c.requires.right_kept c.deref.result.now c.deref-2.result.now
    c.deref.ensures c.deref-2.ensures in
    declared_here assumed _ _ right c.in_ok-under.under.right.value c.deref-4.result.now names
    (right_among assumed left right c.requires.left_kept c.requires.right_kept) both.1.under c.deref-4.ensures

pub both_lines-requires-clause-left : goal.both_lines-requires-clause-left
both_lines-requires-clause-left c =
    at_deref c.args.meter.now c.both_under.new.meter c.args.left.value c.deref.result.now c.in_ok-under.ensures.2.charged c.deref.ensures
    c.requires.left

pub both_lines-requires-clause-right : goal.both_lines-requires-clause-right
both_lines-requires-clause-right c =
    at_deref c.args.meter.now c.both_under.new.meter c.args.right.value c.deref-2.result.now c.in_ok-under.ensures.2.charged
    c.deref-2.ensures c.requires.right

pub both_lines-requires-clause-left_under : goal.both_lines-requires-clause-left_under
both_lines-requires-clause-left_under c =
    at_deref c.args.meter.now c.both_under.new.meter c.in_ok-under.under.left.value c.deref-3.result.now c.in_ok-under.ensures.2.charged
    c.deref-3.ensures c.in_ok-under.ensures.0.numbers

pub both_lines-requires-clause-right_under : goal.both_lines-requires-clause-right_under
both_lines-requires-clause-right_under c =
    at_deref c.args.meter.now c.both_under.new.meter c.in_ok-under.under.right.value c.deref-4.result.now c.in_ok-under.ensures.2.charged
    c.deref-4.ensures c.in_ok-under.ensures.1.numbers

pub both_lines-requires-clause-left_part : goal.both_lines-requires-clause-left_part
both_lines-requires-clause-left_part c = λ is.
    let left = c.args.left.value in
    let right = c.args.right.value in
    let both = rw (c.in_ok-clone.ensures.cases, c.in_ok-clone-2.ensures.cases) at c.in_ok-under.ensures in
    let state = c.args.state.now in
    let one = c.requires.left_kept in
    let other = c.requires.right_kept in
    rw (c.deref-3.ensures, c.deref-2.ensures) (left_part state (joined_names left.params right.params) left right
    c.in_ok-under.under.left.value c.in_ok-under.under.right.value (left_among state.assumed left right one other)
    (right_among state.assumed left right one other) both.0.under both.1.under c.args.test c.requires.holds is)

pub both_lines-requires-clause-right_part : goal.both_lines-requires-clause-right_part
both_lines-requires-clause-right_part c = λ is.
    let left = c.args.left.value in
    let right = c.args.right.value in
    let both = rw (c.in_ok-clone.ensures.cases, c.in_ok-clone-2.ensures.cases) at c.in_ok-under.ensures in
    let state = c.args.state.now in
    let one = c.requires.left_kept in
    let other = c.requires.right_kept in
    rw (c.deref-4.ensures, c.deref.ensures) (right_part state (joined_names left.params right.params) left right
    c.in_ok-under.under.left.value c.in_ok-under.under.right.value (left_among state.assumed left right one other)
    (right_among state.assumed left right one other) both.0.under both.1.under c.args.test c.requires.holds is)

pub returns-in-Ok : goal.returns-in-Ok
returns-in-Ok c =
    let left = c.args.left.value in
    let right = c.args.right.value in
    let state = c.args.state.now in
    let g = c.args.meter.now in
    let both = rw (c.in_ok-clone.ensures.cases, c.in_ok-clone-2.ensures.cases) at c.in_ok-under.ensures in
    let names = joined_here state.assumed left right c.requires.left_kept c.requires.right_kept c.deref.result.now c.deref-2.result.now
    c.deref.ensures c.deref-2.ensures in
    let shows = shows_here c.args.test _ _ left right c.in_ok-under.under.left.value c.in_ok-under.under.right.value c.deref.result.now
    c.deref-2.result.now c.deref-3.result.now c.deref-4.result.now (string_bytes c.in-Ok.lines) names c.deref.ensures c.deref-2.ensures
    c.deref-3.ensures c.deref-4.ensures c.in-Ok.ensures.lines in (
      shown_claims state (joined_names left.params right.params) c.args.test left right c.in_ok-under.under.left.value
          c.in_ok-under.under.right.value both.0.under both.1.under (string_bytes c.in-Ok.lines) shows,
      paid_works g c.both_lines.new.meter (IsCharged_trans g c.both_under.new.meter c.both_lines.new.meter both.2.charged
          c.in-Ok.ensures.meter),
      c.requires.goes_on,
    )

pub returns-in_err-under : goal.returns-in_err-under
returns-in_err-under c =
    let Whole = EndsTwo c.args.left.value c.args.right.value in
    let g = c.args.meter.now in
    let why = why_copied c.in_ok-clone.field-0.value c.in_ok-clone-2.field-0.value c.args.left.value c.args.right.value
    c.in_ok-clone.ensures.cases c.in_ok-clone-2.ensures.cases (narrows c.args.state.now.assumed) g c.both_under.new.meter
    c.in_err-under.field-0.0 c.in_err-under.ensures in
    refused c.from_residual-in_err-under.result _ _ c.in_err-under.field-0.0 (search rules)
    (unworked_on _ Whole Whole g g c.both_under.new.meter c.in_err-under.field-0.0 (λ why ends. ends) (IsCharged_refl g g refl) why)

pub returns : goal.returns
returns c =
    two_fault c.args.left.value c.args.right.value (joined c.deref.result.now.params c.deref-2.result.now.params) c.args.meter.now
    c.both_under.new.meter c.both_lines.new.meter c.in-Err.fault c.refusal_of_operation.result
    (joined_here c.args.state.now.assumed c.args.left.value c.args.right.value c.requires.left_kept c.requires.right_kept
    c.deref.result.now c.deref-2.result.now c.deref.ensures c.deref-2.ensures) c.refusal_of_operation.ensures
    c.in_ok-under.ensures.2.charged c.in-Err.ensures.meter
