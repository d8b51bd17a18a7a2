use Rattle.isl_union.proofs.PieceLaws.{IsKeptValue-from_pieces}
use Rattle.isl_lower.proofs.MadeLaws.{made_counted, made_lowered, made_value, made_within}
use Rattle.isl_lower.proofs.ValueLaws.{lowered_plain}
use Rattle.isl_lower.proofs.value.lower.Goals as goal

pub from_normal-requires-clause-pieces : goal.from_normal-requires-clause-pieces
from_normal-requires-clause-pieces c = rw c.in_ok-params.ensures c.in_ok-pieces.ensures.made.sound

pub returns-clause-exact : goal.returns-clause-exact
returns-clause-exact c =
    made_lowered c.args.meter.now c.lower_pieces.new.meter c.args.literal.now c.in_ok-pieces.pieces.items
    (rw (c.as_slice-names.ensures, c.as_slice.ensures) at c.in_ok-pieces.ensures.made) c.from_normal.result
    (made_value c.in_ok-params.params c.as_slice-names.result.now c.args.literal.now.params c.in_ok-pieces.pieces.items c.from_normal.result
    c.in_ok-params.ensures c.as_slice-names.ensures c.from_normal.ensures)

pub returns-clause-kept : goal.returns-clause-kept
returns-clause-kept c =
    rw c.from_normal.ensures (IsKeptValue-from_pieces c.in_ok-params.params c.in_ok-pieces.pieces.items
    (rw (c.in_ok-params.ensures, c.as_slice-names.ensures) c.requires.well_formed.params)
    (rw c.in_ok-params.ensures c.in_ok-pieces.ensures.made.sound))

pub returns-clause-definitions : goal.returns-clause-definitions
returns-clause-definitions c plain = lowered_plain c.args.literal.now c.from_normal.result (returns-clause-exact c) plain

pub returns-clause-within : goal.returns-clause-within
returns-clause-within c =
    made_within c.args.meter.now c.lower_pieces.new.meter c.args.literal.now c.in_ok-pieces.pieces.items
    (rw (c.as_slice-names.ensures, c.as_slice.ensures) at c.in_ok-pieces.ensures.made) c.from_normal.result
    (made_value c.in_ok-params.params c.as_slice-names.result.now c.args.literal.now.params c.in_ok-pieces.pieces.items c.from_normal.result
    c.in_ok-params.ensures c.as_slice-names.ensures c.from_normal.ensures)

pub returns-clause-counted : goal.returns-clause-counted
returns-clause-counted c =
    made_counted c.args.meter.now c.lower_pieces.new.meter c.args.literal.now c.in_ok-pieces.pieces.items
    (rw (c.as_slice-names.ensures, c.as_slice.ensures) at c.in_ok-pieces.ensures.made) c.from_normal.result
    (made_value c.in_ok-params.params c.as_slice-names.result.now c.args.literal.now.params c.in_ok-pieces.pieces.items c.from_normal.result
    c.in_ok-params.ensures c.as_slice-names.ensures c.from_normal.ensures)
