use Rattle.std.proofs.Common.{take}
use Rattle.isl_meter.specs.Gauge.{IsCharged}
use Rattle.isl_images.specs.Image.{ImageHas}
use Rattle.isl_images.specs.Made.{elements_of_all, ArePiecesOf}
use Rattle.isl_images.proofs.image.piece_images.Given as goal

abbrev pub invariant-loop-piece : goal.invariant-loop-piece
invariant-loop-piece l = record {
  made : ArePiecesOf l.fn.meter l.params ⊥
      (λ v. ImageHas l.image (elements_of_all l.params (take l.piece-index l.pieces) v)) l.made.items;
  charged : IsCharged l.fn.meter l.meter;
}
