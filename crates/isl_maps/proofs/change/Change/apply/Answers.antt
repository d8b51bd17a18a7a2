use Rattle.std.proofs.Common.{ap, ◌∙◌}
use Rattle.std.proofs.lemmas.Result.{err_from_is_err_and}
use Rattle.isl_union.specs.KeptValue.{KeptValue}
use Rattle.isl_union.proofs.PieceLaws.{IsKeptValue-from_pieces}
use Rattle.isl_union.proofs.ValueLaws.{pieces_within}
use Rattle.isl_maps.proofs.ChangeLaws.{fault_value, spaces_value, value_has, value_images}
use Rattle.isl_maps.proofs.change.Change.apply.Goals as goal

pub returns-in_err-ask_spaces-clause-faults : goal.returns-in_err-ask_spaces-clause-faults
returns-in_err-ask_spaces-clause-faults c =
    let p = err_from_is_err_and c.from_residual.result c.from_residual.ensures.1 in
    rw (p.1, p.2) (fault_value c.args.self c.pieces.result.now c.args.a.now c.pieces.ensures.content c.in_err-ask_spaces.field-0.0
    c.in_err-ask_spaces.ensures.faults)

pub images-requires-clause-within : goal.images-requires-clause-within
images-requires-clause-within c =
    pieces_within c.args.meter.now c.args.a.now.params c.pieces-2.result.now c.args.a.now.pieces c.pieces-2.ensures.well_formed
    c.pieces-2.ensures.content c.requires

pub returns-in_err-pieces-clause-faults : goal.returns-in_err-pieces-clause-faults
returns-in_err-pieces-clause-faults c =
    let p = err_from_is_err_and c.from_residual-in_err-pieces.result c.from_residual-in_err-pieces.ensures.1 in
    rw (p.1, p.2) (fault_value c.args.self c.pieces-2.result.now c.args.a.now c.pieces-2.ensures.content c.in_err-pieces.field-0.0
    c.in_err-pieces.ensures.faults)

pub returns-clause-kept : goal.returns-clause-kept
returns-clause-kept c =
    let made = IsKeptValue-from_pieces c.params-params.result.now c.in_ok-pieces.pieces.items c.params-params.ensures.well_formed
    c.in_ok-pieces.ensures.sound in
    rw (c.from_normal.ensures, c.in_ok-copy.ensures) made

pub returns-clause-elements : goal.returns-clause-elements
returns-clause-elements c =
    let params = c.params-params.result.now in
    let are = value_images c.args.self c.args.a.now c.from_normal.result params c.in_ok-copy.field-0 c.pieces-2.result.now
    c.in_ok-pieces.pieces.items c.in_ok-pieces.ensures.images c.params-params.ensures.content c.pieces-2.ensures.content
    c.from_normal.ensures in
    value_has c.args.self c.args.a.now c.from_normal.result
    (ap (λ (v : KeptValue). v.params) c.from_normal.ensures ∙ c.in_ok-copy.ensures ∙ c.params-params.ensures.content) are

pub returns-clause-numbers : goal.returns-clause-numbers
returns-clause-numbers c =
    let params = c.params-params.result.now in
    let are = value_images c.args.self c.args.a.now c.from_normal.result params c.in_ok-copy.field-0 c.pieces-2.result.now
    c.in_ok-pieces.pieces.items c.in_ok-pieces.ensures.images c.params-params.ensures.content c.pieces-2.ensures.content
    c.from_normal.ensures in
    are.numbers

pub returns-clause-ok : goal.returns-clause-ok
returns-clause-ok c = spaces_value c.args.self c.pieces.result.now c.args.a.now c.pieces.ensures.content c.in_ok-ask_spaces.ensures.ok
