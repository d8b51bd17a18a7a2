use Rattle.std.proofs.Common.{◌≤◌, List, length, refl, rules, subst, sym}
use Rattle.std.specs.Prelude.{unsigned_abs}
use Rattle.isl_meter.specs.Gauge.{limit_of}
use Rattle.isl_meter.proofs.CutLemmas.{IsCharged_refl, IsCharged_trans}
use Rattle.isl_space.specs.Limits.{most_parameters}
use Rattle.isl_space.specs.Name.{Name}
use Rattle.isl_space.specs.Names.{joined}
use Rattle.isl_union.specs.KeptValue.{HasNoDefinitions}
use Rattle.isl_values.proofs.ValueLaws.{numbers_later, paid_works}
use Rattle.isl_eval.specs.Evaluation.{EndsTwo}
use Rattle.isl_eval.proofs.AssumedLaws.{gist_in_is, gist_names, two_goes}
use Rattle.isl_eval.proofs.TestLaws.{at_deref, refused, two_fault, unworked_on}
use Rattle.isl_eval.proofs.kept.gist_in.Goals as goal

pub gist-requires-clause-own : goal.gist-requires-clause-own
gist-requires-clause-own c =
    numbers_later c.args.meter.now c.right_under.new.meter c.args.value.now c.in_ok-under.ensures.1.charged c.requires.numbers

pub gist-requires-clause-other : goal.gist-requires-clause-other
gist-requires-clause-other c =
    at_deref c.args.meter.now c.right_under.new.meter c.in_ok-under.under.value c.deref.result.now c.in_ok-under.ensures.1.charged
    c.deref.ensures c.in_ok-under.ensures.0.numbers

pub gist-requires-clause-context_plain : goal.gist-requires-clause-context_plain
gist-requires-clause-context_plain c =
    subst HasNoDefinitions (sym c.deref.ensures) (c.in_ok-under.ensures.0.definitions c.requires.context_definitions)

pub returns-in-Ok : goal.returns-in-Ok
returns-in-Ok c =
    let e = c.in-Ok.ensures in
    let g = c.args.meter.now in
    let own = c.in_ok-under.ensures in
    let names = gist_names c.args.state.now.assumed c.args.value.now c.args.context.value c.requires.kept c.requires.context_kept
    c.in_ok-under.under.value c.deref.result.now own.0.kept own.0.under c.deref.ensures in (
      gist_in_is c.args.state.now g c.right_under.new.meter c.args.value.now c.args.context.value c.in_ok-under.under.value c.deref.result.now
          c.in-Ok.gist c.in_ok-new-in-Ok.field-0.value _ c.requires.kept c.requires.context_kept own.0 c.deref.ensures
          (numbers_later g c.right_under.new.meter c.in_ok-under.under.value own.1.charged own.0.numbers) e.exact e.kept e.definitions
          (e.numbers (unsigned_abs (limit_of g)) c.requires.numbers) c.in_ok-new-in-Ok.ensures.ok,
      paid_works g c.gist.new.meter (IsCharged_trans g c.right_under.new.meter c.gist.new.meter own.1.charged e.units.1),
      two_goes c.args.state.now.assumed c.args.value.now c.args.context.value c.requires.kept c.requires.context_kept
          (subst (λ (ns : List Name). length ns ≤ most_parameters) names e.units.0),
    )

pub returns-in_err-under : goal.returns-in_err-under
returns-in_err-under c =
    let Whole = EndsTwo c.args.value.now c.args.context.value in
    refused c.from_residual.result _ _ c.in_err-under.field-0.0 (search rules)
    (unworked_on _ Whole Whole c.args.meter.now c.args.meter.now c.right_under.new.meter c.in_err-under.field-0.0 (λ why ends. ends)
    (IsCharged_refl c.args.meter.now c.args.meter.now refl) c.in_err-under.ensures)

pub returns : goal.returns
returns c =
    two_fault c.args.value.now c.args.context.value (joined c.args.value.now.params c.deref.result.now.params) c.args.meter.now
    c.right_under.new.meter c.gist.new.meter c.in-Err.fault c.refusal_of_operation.result
    (gist_names c.args.state.now.assumed c.args.value.now c.args.context.value c.requires.kept c.requires.context_kept
    c.in_ok-under.under.value c.deref.result.now c.in_ok-under.ensures.0.kept c.in_ok-under.ensures.0.under c.deref.ensures)
    c.refusal_of_operation.ensures c.in_ok-under.ensures.1.charged c.in-Err.ensures.units
