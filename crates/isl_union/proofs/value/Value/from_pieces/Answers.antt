use Rattle.std.proofs.Common.{sym, subst, ◌*◌, length, map}
use Rattle.std.proofs.lemmas.Result.{err_from_is_err_and}
use Rattle.isl_difference.proofs.TameLaws.{tame_cut_first, tame_ok}
use Rattle.isl_union.specs.KeptValue.{IsKeptValue}
use Rattle.isl_union.specs.Piece.{kept_piece}
use Rattle.isl_union.specs.Tame.{size_of}
use Rattle.isl_union.proofs.MadeLaws.{all_over, all_small, live_have, live_small}
use Rattle.isl_union.proofs.PieceLaws.{IsKeptValue-from_pieces}
use Rattle.isl_union.proofs.SizeLaws.{value_of_size}
use Rattle.isl_union.proofs.value.Value.from_pieces.Goals as goal

pub live_pieces-requires : goal.live_pieces-requires
live_pieces-requires c = rw c.as_slice.ensures.value c.requires.pieces

pub returns-clause-pieces : goal.returns-clause-pieces
returns-clause-pieces c =
    let exact = c.in_ok-kept.ensures.exact in
    let whole = rw c.as_slice.ensures.value at exact in
    rw c.from_normal.ensures whole

pub returns-clause-kept : goal.returns-clause-kept
returns-clause-kept c =
    subst IsKeptValue (sym c.from_normal.ensures)
    (IsKeptValue-from_pieces c.args.params c.in_ok-kept.kept.items c.requires.params c.in_ok-kept.ensures.sound)

pub returns-clause-elements : goal.returns-clause-elements
returns-clause-elements c v e =
    let g = c.args.meter.now in
    let params = c.args.params in
    let pieces = c.args.pieces.items in
    let exact = c.in_ok-kept.ensures.exact in
    let whole = rw c.as_slice.ensures.value at exact in
    rw c.from_normal.ensures
    (live_have g params v e (map kept_piece pieces) (map kept_piece c.in_ok-kept.kept.items)
    (all_over g params pieces c.requires.pieces) whole)

pub returns-clause-numbers : goal.returns-clause-numbers
returns-clause-numbers c most h =
    let g = c.args.meter.now in
    let params = c.args.params in
    let pieces = c.args.pieces.items in
    let exact = c.in_ok-kept.ensures.exact in
    let whole = rw c.as_slice.ensures.value at exact in
    rw c.from_normal.ensures
    (live_small g params most (map kept_piece pieces) (map kept_piece c.in_ok-kept.kept.items)
    (all_over g params pieces c.requires.pieces) whole
    (all_small g params most pieces h))

-- ---- of difference constraints
pub returns-in_err-kept-clause-tame : goal.returns-in_err-kept-clause-tame
returns-in_err-kept-clause-tame c = λ columns bits limit room all.
    let w = columns * (columns * columns) in
    let p = err_from_is_err_and c.from_residual.result c.from_residual.ensures.1 in
    let cut = (rw c.as_slice.ensures.value at c.in_err-kept.ensures.tame) columns bits limit room all in
    rw (p.1, p.2) (tame_cut_first (length c.args.pieces.items * w) c.args.meter.now c.live_pieces.new.meter _ _ c.in_err-kept.field-0.0 cut)

pub returns-clause-tame : goal.returns-clause-tame
returns-clause-tame c = λ columns bits limit room all.
    let w = columns * (columns * columns) in
    let asked = (rw c.as_slice.ensures.value at c.in_ok-kept.ensures.tame) columns bits limit room all in
    tame_ok (length c.args.pieces.items * w) c.args.meter.now c.live_pieces.new.meter _ _ asked.within.units
    (value_of_size c.args.params (size_of (length c.args.pieces.items) columns bits) c.in_ok-kept.kept.items c.from_normal.result
    c.in_ok-kept.ensures.sound c.from_normal.ensures asked.answer)
