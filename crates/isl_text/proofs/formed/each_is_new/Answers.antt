use Rattle.std.proofs.Common.{◌≡◌}
use Rattle.isl_text.specs.Formed.{piece_is_formed}
use Rattle.isl_text.proofs.SameNames.{piece_is, pieces_stop, pieces_more}
use Rattle.isl_text.proofs.formed.each_is_new.Goals as goal

pub returns-then-not-branch : goal.returns-then-not-branch
returns-then-not-branch c =
    let formed : c.in_ok-piece_is_new.field-0 ≡ piece_is_formed c.args.params.now c.piece-item.result =
    piece_is c.in_ok-params.params.keys c.args.params.now c.new-own.result.keys _ c.piece-item.result c.in_ok-piece_is_new.field-0
    c.in_ok-params.ensures c.new-own.ensures.empty c.in_ok-piece_is_new.ensures in
    pieces_stop c.args.params.now c.args.pieces.now c.loop-piece.piece-index c.piece-item.result c.loop-piece-test.true c.piece-item.is
    c.loop-piece.invariant c.in_ok-piece_is_new.field-0 c.if-not-branch.true formed

pub loop-piece-preserved : goal.loop-piece-preserved
loop-piece-preserved c =
    let formed : c.in_ok-piece_is_new.field-0 ≡ piece_is_formed c.args.params.now c.piece-item.result =
    piece_is c.in_ok-params.params.keys c.args.params.now c.new-own.result.keys _ c.piece-item.result c.in_ok-piece_is_new.field-0
    c.in_ok-params.ensures c.new-own.ensures.empty c.in_ok-piece_is_new.ensures in
    pieces_more c.args.params.now c.args.pieces.now c.loop-piece.piece-index c.piece-item.result c.loop-piece-test.true c.piece-item.is
    c.loop-piece.invariant c.in_ok-piece_is_new.field-0 c.if-not-branch.false formed
