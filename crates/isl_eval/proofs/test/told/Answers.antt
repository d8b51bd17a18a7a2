use Rattle.std.proofs.Common.{◌≤◌, List, length, refl, rules, subst}
use Rattle.isl_meter.proofs.CutLemmas.{IsCharged_refl, IsCharged_trans}
use Rattle.isl_space.specs.Limits.{most_parameters}
use Rattle.isl_space.specs.Name.{Name}
use Rattle.isl_space.specs.Names.{joined}
use Rattle.isl_values.proofs.ValueLaws.{paid_works}
use Rattle.isl_eval.specs.Evaluation.{EndsTwo}
use Rattle.isl_eval.proofs.AssumedLaws.{joined_at, two_goes}
use Rattle.isl_eval.proofs.TestLaws.{at_deref, refused, told_is, two_fault, unworked_on}
use Rattle.isl_eval.proofs.test.told.Goals as goal

pub holds-requires-clause-left : goal.holds-requires-clause-left
holds-requires-clause-left c =
    let both = c.in_ok-operands.ensures in
    at_deref c.args.meter.now c.both_under.new.meter c.in_ok-operands.operands.left.value c.deref.result.now both.2.charged c.deref.ensures
    both.0.numbers

pub holds-requires-clause-right : goal.holds-requires-clause-right
holds-requires-clause-right c =
    let both = c.in_ok-operands.ensures in
    at_deref c.args.meter.now c.both_under.new.meter c.in_ok-operands.operands.right.value c.deref-2.result.now both.2.charged
    c.deref-2.ensures both.1.numbers

pub returns-in-Ok : goal.returns-in-Ok
returns-in-Ok c =
    let both = c.in_ok-operands.ensures in
    let names = joined_at c.args.state.now.assumed c.args.left.value c.args.right.value c.requires.left_kept c.requires.right_kept
    c.in_ok-operands.operands.left.value c.in_ok-operands.operands.right.value c.deref.result.now c.deref-2.result.now both.0.under
    both.1.under c.deref.ensures c.deref-2.ensures in (
      told_is c.args.state.now c.args.test c.args.left.value c.args.right.value c.in_ok-operands.operands.left.value
          c.in_ok-operands.operands.right.value c.deref.result.now c.deref-2.result.now c.in-Ok.holds c.requires.left_kept
          c.requires.right_kept both.0.under both.1.under c.deref.ensures c.deref-2.ensures c.in-Ok.ensures.exact,
      paid_works c.args.meter.now c.holds.new.meter
          (IsCharged_trans c.args.meter.now c.both_under.new.meter c.holds.new.meter both.2.charged c.in-Ok.ensures.units.1),
      two_goes c.args.state.now.assumed c.args.left.value c.args.right.value c.requires.left_kept c.requires.right_kept
          (subst (λ (ns : List Name). length ns ≤ most_parameters) names c.in-Ok.ensures.units.0),
    )

pub returns-in_err-operands : goal.returns-in_err-operands
returns-in_err-operands c =
    let Whole = EndsTwo c.args.left.value c.args.right.value in
    refused c.from_residual.result _ _ c.in_err-operands.field-0.0 (search rules)
    (unworked_on _ Whole Whole c.args.meter.now c.args.meter.now c.both_under.new.meter c.in_err-operands.field-0.0 (λ why ends. ends)
    (IsCharged_refl c.args.meter.now c.args.meter.now refl) c.in_err-operands.ensures)

pub returns : goal.returns
returns c =
    let both = c.in_ok-operands.ensures in
    two_fault c.args.left.value c.args.right.value (joined c.deref.result.now.params c.deref-2.result.now.params) c.args.meter.now
    c.both_under.new.meter c.holds.new.meter c.in-Err.fault c.refusal_of_operation.result
    (joined_at c.args.state.now.assumed c.args.left.value c.args.right.value c.requires.left_kept c.requires.right_kept
    c.in_ok-operands.operands.left.value c.in_ok-operands.operands.right.value c.deref.result.now c.deref-2.result.now both.0.under
    both.1.under c.deref.ensures c.deref-2.ensures) c.refusal_of_operation.ensures both.2.charged c.in-Err.ensures.units
