use Rattle.std.proofs.Common.{arith, length, ◌<◌}
use Rattle.std.proofs.lemmas.Grind.{common_steps}
use Rattle.isl_meter.proofs.CutLemmas.{IsCharged_trans}
use Rattle.isl_lower.proofs.MadeLaws.{made_more}
use Rattle.isl_lower.proofs.value.lower_pieces.Goals as goal

pub loop-piece-preserved : goal.loop-piece-preserved
loop-piece-preserved c =
    let g = c.args.meter.now in
    let l = c.loop-piece in
    let pieces = c.args.pieces.now in
    let low : l.piece-index < length pieces = grind (arith, common_steps) in
    record {
      made = made_more g l.meter c.lower_piece.new.meter c.args.names.now pieces l.piece-index c.piece-item.result l.made.items
          c.in_ok-more.more.items c.append.new.pieces.items low c.piece-item.is l.invariant.charged c.in_ok-append.ensures
          l.invariant.made c.in_ok-more.ensures.made;
      charged = IsCharged_trans g l.meter c.lower_piece.new.meter l.invariant.charged c.in_ok-more.ensures.meter;
    }
