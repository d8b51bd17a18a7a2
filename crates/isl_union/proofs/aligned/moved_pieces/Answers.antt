use Rattle.std.proofs.Common.{arith, ◌<◌, length}
use Rattle.std.proofs.lemmas.List.Elements.{All-push}
use Rattle.isl_union.specs.Moved.{aligned}
use Rattle.isl_union.specs.Piece.{IsPieceOf}
use Rattle.isl_union.proofs.ValueLaws.{moved_more}
use Rattle.isl_union.proofs.aligned.moved_pieces.Goals as goal

pub loop-piece-preserved : goal.loop-piece-preserved
loop-piece-preserved c =
    let low : c.loop-piece.piece-index < length c.args.pieces.now = omega arith in
    let x = c.in_ok-aligned_piece.field-0 in
    record {
      exact = moved_more (aligned c.args.all.now c.args.names.now) c.args.pieces.now c.loop-piece.moved.items c.push.new.self.items
          c.loop-piece.piece-index c.piece-item.result x low
          c.piece-item.is c.in_ok-aligned_piece.ensures.exact c.in_ok-push.ensures.items c.loop-piece.invariant.exact;
      sound = rw c.in_ok-push.ensures.items (All-push (IsPieceOf c.args.all.now) c.loop-piece.moved.items x c.loop-piece.invariant.sound
          c.in_ok-aligned_piece.ensures.sound);
    }
