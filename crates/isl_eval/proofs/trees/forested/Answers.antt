use Rattle.std.proofs.Common.{rules, true}
use Rattle.std.specs.Prelude.{string_bytes}
use Rattle.isl_meter.proofs.CutLemmas.{IsCharged_trans}
use Rattle.isl_values.proofs.ValueLaws.{fits_later, numbers_later, paid_works}
use Rattle.isl_eval.specs.Evaluation.{EndsTrees}
use Rattle.isl_eval.proofs.TestLaws.{at_deref, memory_unworked, refused}
use Rattle.isl_eval.proofs.TreesLaws.{trees_failed, trees_shown, trees_under_cut}
use Rattle.isl_eval.proofs.trees.forested.Goals as goal

pub under_own-requires-clause-numbers : goal.under_own-requires-clause-numbers
under_own-requires-clause-numbers c =
    numbers_later c.args.meter.now c.flat_value_of.new.meter c.in_ok-value.value.value c.in_ok-value.ensures.made.1.charged
    c.in_ok-value.ensures.made.0.numbers

pub under_own-requires-clause-fits : goal.under_own-requires-clause-fits
under_own-requires-clause-fits c =
    fits_later c.args.meter.now c.flat_value_of.new.meter c.args.state.now c.in_ok-value.ensures.made.1.charged c.requires.fits

pub forest_of-requires : goal.forest_of-requires
forest_of-requires c =
    at_deref c.flat_value_of.new.meter c.under_own.new.meter c.in_ok-under.under.value c.deref.result.now c.in_ok-under.ensures.1.charged
    c.deref.ensures c.in_ok-under.ensures.0.numbers

pub returns : goal.returns
returns c =
    let one = c.in_ok-value.ensures in
    let two = c.in_ok-under.ensures in
    let three = c.in_ok-forest.ensures in
    trees_shown c.args.state.now c.args.operand.now one.goes_on _ c.in_ok-value.value.value c.in_ok-under.under.value c.deref.result.now
    one.made.0 two.0.under c.deref.ensures c.args.meter.now c.under_own.new.meter c.forest_of.new.meter c.in_ok-forest.forest
    (string_bytes c.in_ok-text.text) c.of_code.result two.0.kept
    (IsCharged_trans c.args.meter.now c.flat_value_of.new.meter c.under_own.new.meter one.made.1.charged two.1.charged) three.1 three.2
    three.0 c.in_ok-text.ensures c.of_code.ensures

pub returns-in_err-under : goal.returns-in_err-under
returns-in_err-under c =
    refused c.from_residual-in_err-under.result _ _ c.in_err-under.field-0.0 (search rules)
    (trees_under_cut c.args.state.now c.args.operand.now c.in_ok-value.ensures.goes_on _ c.args.meter.now c.flat_value_of.new.meter
    c.under_own.new.meter c.in_err-under.field-0.0 c.in_ok-value.ensures.made.1.charged c.in_err-under.ensures)

pub returns-in_err-forest : goal.returns-in_err-forest
returns-in_err-forest c =
    let one = c.in_ok-value.ensures in
    let two = c.in_ok-under.ensures in
    refused c.from_residual-in_err-forest.result _ _ c.in_err-forest.field-0.0 (search rules)
    (trees_failed c.args.state.now c.args.operand.now one.goes_on _ c.in_ok-value.value.value c.in_ok-under.under.value c.deref.result.now
    one.made.0 two.0.under c.deref.ensures c.args.meter.now c.under_own.new.meter c.forest_of.new.meter c.in_err-forest.field-0.0
    (IsCharged_trans c.args.meter.now c.flat_value_of.new.meter c.under_own.new.meter one.made.1.charged two.1.charged)
    c.in_err-forest.ensures)

pub returns-in_err-text : goal.returns-in_err-text
returns-in_err-text c =
    let one = c.in_ok-value.ensures in
    let two = c.in_ok-under.ensures in
    let three = c.in_ok-forest.ensures in
    let charged = IsCharged_trans c.args.meter.now c.flat_value_of.new.meter c.under_own.new.meter one.made.1.charged two.1.charged in
    memory_unworked c.from_residual-in_err-text.result _ true (EndsTrees c.args.state.now c.args.operand.now) c.args.meter.now
    c.forest_of.new.meter (search rules)
    (paid_works c.args.meter.now c.forest_of.new.meter (IsCharged_trans c.args.meter.now c.under_own.new.meter c.forest_of.new.meter charged three.1.charged))
