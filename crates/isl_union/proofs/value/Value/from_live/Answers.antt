use Rattle.std.proofs.Common.{◌∙◌, ap, sym, subst, map, List}
use Rattle.isl_union.specs.KeptValue.{KeptPiece, KeptValue, IsKeptValue}
use Rattle.isl_union.specs.Piece.{kept_piece}
use Rattle.isl_union.proofs.MadeLaws.{all_live, all_over, all_small, settled_have, settled_small}
use Rattle.isl_union.proofs.PieceLaws.{IsKeptValue-from_pieces}
use Rattle.isl_union.proofs.value.Value.from_live.Goals as goal

pub settled_pieces-requires-clause-pieces : goal.settled_pieces-requires-clause-pieces
settled_pieces-requires-clause-pieces c = rw c.as_slice.ensures.value c.requires.pieces

pub settled_pieces-requires-clause-live : goal.settled_pieces-requires-clause-live
settled_pieces-requires-clause-live c = rw c.as_slice.ensures.value c.requires.live

pub returns-clause-written : goal.returns-clause-written
returns-clause-written c =
    let exact = c.in_ok-kept.ensures.exact in
    let whole = rw c.as_slice.ensures.value at exact in
    c.from_normal.ensures ∙ ap (λ (ps : List KeptPiece). let v : KeptValue = record { params = c.args.params; pieces = ps } in v) whole

pub returns-clause-kept : goal.returns-clause-kept
returns-clause-kept c =
    subst IsKeptValue (sym c.from_normal.ensures)
    (IsKeptValue-from_pieces c.args.params c.in_ok-kept.kept.items c.requires.params c.in_ok-kept.ensures.sound)

pub returns-clause-elements : goal.returns-clause-elements
returns-clause-elements c v e =
    let g = c.args.meter.now in
    let params = c.args.params in
    let pieces = c.args.pieces.items in
    rw (returns-clause-written c)
    (settled_have g params v e (map kept_piece pieces)
    (all_over g params pieces c.requires.pieces)
    (all_live g params pieces c.requires.pieces c.requires.live))

pub returns-clause-numbers : goal.returns-clause-numbers
returns-clause-numbers c most h =
    let g = c.args.meter.now in
    let params = c.args.params in
    let pieces = c.args.pieces.items in
    rw (returns-clause-written c)
    (settled_small g params most (map kept_piece pieces)
    (all_over g params pieces c.requires.pieces)
    (all_live g params pieces c.requires.pieces c.requires.live)
    (all_small g params most pieces h))
