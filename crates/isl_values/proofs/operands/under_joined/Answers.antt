use Rattle.std.proofs.Common.{rules, ◌∙◌, ap}
use Rattle.std.specs.Prelude.{unsigned_abs}
use Rattle.isl_meter.specs.Gauge.{limit_of}
use Rattle.isl_meter.proofs.CutLemmas.{IsCharged_refl}
use Rattle.isl_space.specs.Names.{joined}
use Rattle.isl_values.proofs.UnderLaws.{empty_over, err_is, over_fault, over_numbers, over_operand}
use Rattle.isl_values.proofs.ValueLaws.{numbers_later}
use Rattle.isl_values.proofs.operands.under_joined.Goals as goal

pub returns-in_err-over-clause-meter : goal.returns-in_err-over-clause-meter
returns-in_err-over-clause-meter c =
    let names = joined c.args.names.now c.args.others.now in
    let is = c.empty.ensures ∙ ap empty_over c.in_ok-params.ensures.joined in
    let e = c.in_err-over.ensures in
    let fault = c.in_err-over.field-0.0 in
    err_is c.from_residual-in_err-over.result _ _ fault (search rules)
    (over_fault names c.args.value.now c.empty.result is c.requires.declared c.args.meter.now c.union-2.new.meter fault e.meter e.faults)

pub under_onto-requires-clause-numbers : goal.under_onto-requires-clause-numbers
under_onto-requires-clause-numbers c =
    let g = c.args.meter.now in
    let h = c.union-2.new.meter in
    let names = joined c.args.names.now c.args.others.now in
    let is = c.empty.ensures ∙ ap empty_over c.in_ok-params.ensures.joined in
    let e = c.in_ok-over.ensures in
    let most = unsigned_abs (limit_of g) in
    numbers_later g h c.in_ok-over.over (IsCharged_refl g h e.meter)
    (e.numbers most (over_numbers names c.args.value.now c.empty.result is c.requires.declared most) c.requires.numbers)

pub returns-clause-under : goal.returns-clause-under
returns-clause-under c =
    let names = joined c.args.names.now c.args.others.now in
    let is = c.empty.ensures ∙ ap empty_over c.in_ok-params.ensures.joined in
    let e = c.in_ok-over.ensures in
    over_operand names c.args.value.now c.empty.result is c.requires.declared c.args.meter.now c.union-2.new.meter c.args.assumed.now
    c.in_ok-over.over c.in_ok-under_onto.field-0 e.meter e.params e.elements e.definitions c.in_ok-under_onto.ensures.under
