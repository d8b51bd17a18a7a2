use Rattle.std.proofs.Common.{arith, ◌<◌, length}
use Rattle.std.proofs.lemmas.List.Elements.{All-push}
use Rattle.isl_union.specs.Piece.{IsPieceOf}
use Rattle.isl_union.proofs.ValueLaws.{moved_more}
use Rattle.isl_maps.specs.Inverse.{inverse_piece}
use Rattle.isl_maps.proofs.turned.inverse_pieces.Goals as goal

pub loop-piece-preserved : goal.loop-piece-preserved
loop-piece-preserved c =
    let low : c.loop-piece.piece-index < length c.args.pieces.now = omega arith in
    let x = c.in_ok-inverse_piece.field-0 in
    record {
      exact = moved_more (inverse_piece c.args.params.now) c.args.pieces.now c.loop-piece.turned.items c.push.new.self.items
          c.loop-piece.piece-index c.piece-item.result x low c.piece-item.is
          c.in_ok-inverse_piece.ensures.exact c.in_ok-push.ensures.items c.loop-piece.invariant.exact;
      sound = rw c.in_ok-push.ensures.items (All-push (IsPieceOf c.args.params.now) c.loop-piece.turned.items x c.loop-piece.invariant.sound
          c.in_ok-inverse_piece.ensures.sound);
    }
