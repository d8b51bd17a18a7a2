use Rattle.std.proofs.Common.{sym, ◌∙◌, subst}
use Rattle.isl_union.specs.KeptValue.{HasNoDefinitions, IsKeptValue}
use Rattle.isl_union.proofs.ValueLaws.{pieces_within}
use Rattle.isl_maps.proofs.InverseLaws.{inverse_has, inverse_kept, inverse_maps, inverse_plain, inverse_small, made_inverse}
use Rattle.isl_maps.proofs.turned.inverse.Goals as goal

pub inverse_pieces-requires-clause-within : goal.inverse_pieces-requires-clause-within
inverse_pieces-requires-clause-within c =
    pieces_within c.args.meter.now c.args.a.now.params c.pieces.result.now c.args.a.now.pieces c.pieces.ensures.well_formed
    c.pieces.ensures.content c.requires

pub returns-clause-written : goal.returns-clause-written
returns-clause-written c =
    made_inverse c.args.a.now c.in_ok-copy.field-0 c.params-params.result.now c.pieces.result.now c.in_ok-pieces.pieces.items
    c.from_normal.result (c.in_ok-copy.ensures ∙ c.params-params.ensures.content)
    c.params-params.ensures.content c.pieces.ensures.content c.in_ok-pieces.ensures.exact c.from_normal.ensures

pub returns-clause-kept : goal.returns-clause-kept
returns-clause-kept c = subst IsKeptValue (sym (returns-clause-written c)) (inverse_kept c.args.meter.now c.args.a.now c.pieces.ensures.kept
    c.requires)

pub returns-clause-elements : goal.returns-clause-elements
returns-clause-elements c v e =
    rw (returns-clause-written c) (inverse_has c.args.meter.now c.args.a.now c.pieces.ensures.kept c.requires v e)

pub returns-clause-maps : goal.returns-clause-maps
returns-clause-maps c v from to x y first second =
    rw (returns-clause-written c) (inverse_maps c.args.meter.now c.args.a.now c.pieces.ensures.kept c.requires v from to x y first second)

pub returns-clause-definitions : goal.returns-clause-definitions
returns-clause-definitions c h = subst HasNoDefinitions (sym (returns-clause-written c)) (inverse_plain c.args.a.now h)

pub returns-clause-numbers : goal.returns-clause-numbers
returns-clause-numbers c b h =
    rw (returns-clause-written c) (inverse_small c.args.meter.now c.args.a.now c.pieces.ensures.kept c.requires b h)
