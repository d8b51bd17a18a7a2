use Rattle.std.proofs.Common.{sym, ◌∙◌, subst}
use Rattle.isl_meter.proofs.CutLemmas.{IsCharged_trans}
use Rattle.isl_space.specs.Names.{IsParameterList}
use Rattle.isl_union.specs.KeptValue.{Has}
use Rattle.std.proofs.lemmas.Result.{err_from_is_err_and}
use Rattle.isl_space.specs.Valuation.{Valuation}
use Rattle.isl_relation.specs.Extremes.{HasFirst, HasFirstEverywhere}
use Rattle.isl_extremes.specs.Pieces.{elements_of_all, order_of}
use Rattle.isl_extremes.proofs.FaultLaws.{later_fault}
use Rattle.isl_extremes.proofs.ValueLaws.{everywhere_from, everywhere_to, flat_plain, pieces_have, value_has, value_kept, value_plain}
use Rattle.isl_extremes.proofs.ValueLaws.{value_small}
use Rattle.isl_extremes.proofs.extremes.first.Goals as goal

pub first_pieces-requires : goal.first_pieces-requires
first_pieces-requires c =
    let g = c.args.meter.now in
    let h = c.flat.new.meter in
    let flat = c.in_ok-flat.flat in
    let params = c.in_ok-params.params in
    let names = c.in_ok-params.ensures ∙ c.params.ensures.content in
    record {
      names = subst IsParameterList (sym c.in_ok-params.ensures) c.params.ensures.well_formed;
      pieces = flat_plain c.args.a.now flat params c.pieces.result.now names c.pieces.ensures.content g h c.in_ok-flat.ensures.meter
          c.pieces.ensures.well_formed c.in_ok-flat.ensures.numbers c.in_ok-flat.ensures.definitions;
    }

pub from_normal-requires : goal.from_normal-requires
from_normal-requires c = record {
  params = subst IsParameterList (sym c.in_ok-params.ensures) c.params.ensures.well_formed;
  pieces = c.in_ok-made.ensures.made.sound;
}

pub returns-clause-kept : goal.returns-clause-kept
returns-clause-kept c =
    value_kept c.in_ok-params.params c.in_ok-made.made.items c.from_normal.result c.from_normal.ensures
    (subst IsParameterList (sym c.in_ok-params.ensures) c.params.ensures.well_formed) c.in_ok-made.ensures.made.sound

pub returns-clause-elements : goal.returns-clause-elements
returns-clause-elements c v e =
    let a = c.args.a.now in
    let params = c.in_ok-params.params in
    let pieces = c.pieces.result.now in
    let names = c.in_ok-params.ensures ∙ c.params.ensures.content in
    value_has params c.in_ok-made.made.items c.from_normal.result c.from_normal.ensures c.args.direction (elements_of_all params pieces v)
    (Has a v) v e (pieces_have a c.in_ok-flat.flat params pieces names c.pieces.ensures.content c.in_ok-flat.ensures.elements v)
    (c.in_ok-made.ensures.elements v e)

pub returns-clause-definitions : goal.returns-clause-definitions
returns-clause-definitions c =
    value_plain c.in_ok-params.params c.in_ok-made.made.items c.from_normal.result c.from_normal.ensures c.flat.new.meter
    c.in_ok-made.ensures.made

pub returns-clause-numbers : goal.returns-clause-numbers
returns-clause-numbers c =
    value_small c.in_ok-params.params c.in_ok-made.made.items c.from_normal.result c.from_normal.ensures c.args.meter.now
    c.flat.new.meter c.in_ok-flat.ensures.meter c.in_ok-made.ensures.made

pub returns-clause-meter : goal.returns-clause-meter
returns-clause-meter c =
    let names = c.in_ok-params.ensures ∙ c.params.ensures.content in (
      everywhere_from c.args.a.now c.in_ok-flat.flat c.in_ok-params.params c.pieces.result.now names c.pieces.ensures.content
          c.args.direction c.in_ok-flat.ensures.elements c.in_ok-made.ensures.meter.0,
      IsCharged_trans c.args.meter.now c.flat.new.meter c.first_pieces.new.meter c.in_ok-flat.ensures.meter c.in_ok-made.ensures.meter.1,
    )

pub returns-in_err-made-clause-meter : goal.returns-in_err-made-clause-meter
returns-in_err-made-clause-meter c =
    let a = c.args.a.now in
    let d = c.args.direction in
    let params = c.in_ok-params.params in
    let pieces = c.pieces.result.now in
    let names = c.in_ok-params.ensures ∙ c.params.ensures.content in
    let error = err_from_is_err_and c.from_residual-in_err-made.result c.from_residual-in_err-made.ensures.1 in
    rw (error.1, error.2)
    (later_fault (¬ HasFirstEverywhere (order_of d) a) (¬ ((v : Valuation) → HasFirst (order_of d) (elements_of_all params pieces v)))
    (λ n all. n (everywhere_to a c.in_ok-flat.flat params pieces names c.pieces.ensures.content d c.in_ok-flat.ensures.elements all))
    c.args.meter.now c.flat.new.meter c.first_pieces.new.meter c.in_err-made.field-0.0 c.in_ok-flat.ensures.meter
    c.in_err-made.ensures.meter)
