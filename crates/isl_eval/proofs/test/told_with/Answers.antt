use Rattle.std.proofs.Common.{◌≡◌, ◌∙◌, ◌&&◌, arith, rules, string_bytes, subst, sym, true, false}
use Rattle.std.specs.Prelude.{unsigned_abs}
use Rattle.isl_kinds.specs.Typed.{joined_names}
use Rattle.isl_meter.proofs.CutLemmas.{IsCharged_trans}
use Rattle.isl_meter.specs.Gauge.{limit_of}
use Rattle.isl_union.specs.KeptValue.{Has, IsKeptValue}
use Rattle.isl_values.proofs.ValueLaws.{fits_later, numbers_later, paid_works}
use Rattle.isl_values.specs.State.{HasNumbersUpTo}
use Rattle.isl_eval.specs.Evaluation.{EndsTwo}
use Rattle.isl_eval.proofs.ProvedLaws.{all_shown, both_true, goes_copied, none_shown, why_copied}
use Rattle.isl_eval.proofs.TestLaws.{refused, unworked_on}
use Rattle.isl_eval.proofs.test.told_with.Goals as goal

pub told-requires-clause-left : goal.told-requires-clause-left
told-requires-clause-left c =
    subst (HasNumbersUpTo (unsigned_abs (limit_of c.args.meter.now))) (sym c.in_ok-clone.ensures.cases) c.requires.left

pub told-requires-clause-right : goal.told-requires-clause-right
told-requires-clause-right c =
    subst (HasNumbersUpTo (unsigned_abs (limit_of c.args.meter.now))) (sym c.in_ok-clone-2.ensures.cases) c.requires.right

pub told-requires-clause-left_kept : goal.told-requires-clause-left_kept
told-requires-clause-left_kept c = subst IsKeptValue (sym c.in_ok-clone.ensures.cases) c.requires.left_kept

pub told-requires-clause-right_kept : goal.told-requires-clause-right_kept
told-requires-clause-right_kept c = subst IsKeptValue (sym c.in_ok-clone-2.ensures.cases) c.requires.right_kept

pub returns-in_err-holds : goal.returns-in_err-holds
returns-in_err-holds c =
    refused c.from_residual-in_err-holds.result _ _ c.in_err-holds.field-0.0 (search rules)
    (why_copied c.in_ok-clone.field-0.value c.in_ok-clone-2.field-0.value c.args.left.value c.args.right.value
    c.in_ok-clone.ensures.cases c.in_ok-clone-2.ensures.cases true c.args.meter.now c.told.new.meter c.in_err-holds.field-0.0
    c.in_err-holds.ensures)

pub returns-then-not-are_shown : goal.returns-then-not-are_shown
returns-then-not-are_shown c =
    let left = c.args.left.value in
    let right = c.args.right.value in
    let told = rw (c.in_ok-clone.ensures.cases, c.in_ok-clone-2.ensures.cases) at c.in_ok-holds.ensures in
    let none : c.are_shown.result ≡ false = grind arith in
    let no = sym c.are_shown.ensures ∙ none in (
      (
        told.0,
        none_shown c.args.state.now (joined_names left.params right.params) c.args.test (Has left) (Has right)
            (string_bytes c.new-lines.result) (c.in_ok-holds.holds && c.args.asked) no c.new-lines.ensures.bytes,
      ),
      told.1,
      goes_copied c.in_ok-clone.field-0.value c.in_ok-clone-2.field-0.value c.args.left.value c.args.right.value
          c.in_ok-clone.ensures.cases c.in_ok-clone-2.ensures.cases c.in_ok-holds.ensures.2,
    )

pub claims_proved-requires-clause-left : goal.claims_proved-requires-clause-left
claims_proved-requires-clause-left c =
    numbers_later c.args.meter.now c.told.new.meter c.args.left.value c.in_ok-holds.ensures.1.charged c.requires.left

pub claims_proved-requires-clause-right : goal.claims_proved-requires-clause-right
claims_proved-requires-clause-right c =
    numbers_later c.args.meter.now c.told.new.meter c.args.right.value c.in_ok-holds.ensures.1.charged c.requires.right

pub claims_proved-requires-clause-fits : goal.claims_proved-requires-clause-fits
claims_proved-requires-clause-fits c =
    fits_later c.args.meter.now c.told.new.meter c.args.state.now c.in_ok-holds.ensures.1.charged c.requires.fits

pub claims_proved-requires-clause-holds : goal.claims_proved-requires-clause-holds
claims_proved-requires-clause-holds c =
    let told = rw (c.in_ok-clone.ensures.cases, c.in_ok-clone-2.ensures.cases) at c.in_ok-holds.ensures in
    let all : c.are_shown.result ≡ true = grind arith in
    told.0.0 (both_true c.in_ok-holds.holds c.args.asked (sym c.are_shown.ensures ∙ all))

pub claims_proved-requires-clause-goes_on : goal.claims_proved-requires-clause-goes_on
claims_proved-requires-clause-goes_on c =
    goes_copied c.in_ok-clone.field-0.value c.in_ok-clone-2.field-0.value c.args.left.value c.args.right.value
    c.in_ok-clone.ensures.cases c.in_ok-clone-2.ensures.cases c.in_ok-holds.ensures.2

pub returns-in_err-lines : goal.returns-in_err-lines
returns-in_err-lines c =
    let Whole = EndsTwo c.args.left.value c.args.right.value in
    refused c.from_residual-in_err-lines.result _ _ c.in_err-lines.field-0.0 (search rules)
    (unworked_on _ Whole Whole c.args.meter.now c.told.new.meter c.claims_proved.new.meter c.in_err-lines.field-0.0 (λ why ends. ends)
    c.in_ok-holds.ensures.1.charged c.in_err-lines.ensures)

pub returns : goal.returns
returns c =
    let left = c.args.left.value in
    let right = c.args.right.value in
    let g = c.args.meter.now in
    let told = rw (c.in_ok-clone.ensures.cases, c.in_ok-clone-2.ensures.cases) at c.in_ok-holds.ensures in
    let made = c.in_ok-lines.ensures in
    let all : c.are_shown.result ≡ true = grind arith in
    let shown = sym c.are_shown.ensures ∙ all in (
      (
        told.0,
        all_shown c.args.state.now (joined_names left.params right.params) c.args.test (Has left) (Has right)
            (string_bytes c.in_ok-lines.lines) (c.in_ok-holds.holds && c.args.asked) shown made.0,
      ),
      paid_works g c.claims_proved.new.meter (IsCharged_trans g c.told.new.meter c.claims_proved.new.meter told.1.charged made.1.charged),
      made.2,
    )
