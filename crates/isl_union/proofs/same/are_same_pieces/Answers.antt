use Rattle.std.proofs.Common.{◌<◌, arith, length}
use Rattle.isl_union.proofs.SameLaws.{differ_at}
use Rattle.isl_union.proofs.same.are_same_pieces.Goals as goal

pub returns-then-not-is_same_piece : goal.returns-then-not-is_same_piece
returns-then-not-is_same_piece c =
    let low : c.loop-i.i < length c.args.pieces.now = omega arith in
    let high : c.loop-i.i < length c.args.others.now = omega arith in
    differ_at c.args.pieces.now c.args.others.now c.loop-i.i c.index-pieces-i.result c.index-others-i.result c.is_same_piece.result low high
    c.index-pieces-i.is c.index-others-i.is c.if-not-is_same_piece.true c.is_same_piece.ensures
