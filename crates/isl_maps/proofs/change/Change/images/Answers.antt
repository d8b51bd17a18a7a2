use Rattle.std.proofs.Common.{arith, ◌<◌, length}
use Rattle.isl_union.specs.Piece.{IsPieceOf}
use Rattle.isl_maps.proofs.ChangeLaws.{images_more, sound_more}
use Rattle.isl_maps.proofs.change.Change.images.Goals as goal

pub loop-piece-preserved : goal.loop-piece-preserved
loop-piece-preserved c =
    let pieces = c.args.pieces.now in
    let made = c.loop-piece.made.items in
    let pushed = c.push_found.new.kept.items in
    let i = c.loop-piece.piece-index in
    let piece = c.piece-item.result in
    let found = c.in_ok-image.field-0 in
    let low : i < length pieces = omega arith in
    record {
      images = images_more pieces made pushed i piece found c.in_ok-push_found.ensures c.args.self c.args.params.now low c.piece-item.is
          c.loop-piece.invariant.images c.in_ok-image.ensures.image;
      sound = sound_more pieces made pushed i piece found c.in_ok-push_found.ensures (IsPieceOf c.args.params.now)
          c.loop-piece.invariant.sound c.in_ok-image.ensures.sound;
    }
