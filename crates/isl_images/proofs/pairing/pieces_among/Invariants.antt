use Rattle.std.proofs.Common.{take}
use Rattle.isl_union.specs.Fault.{IsChargedFrom}
use Rattle.isl_relation.specs.Together.{partners, spaces_of}
use Rattle.isl_images.specs.Made.{elements_of, elements_of_all, ArePiecesOf}
use Rattle.isl_images.specs.Pairing.{PairHas, are_paired}
use Rattle.isl_images.proofs.pairing.pieces_among.Given as goal

abbrev pub invariant-loop-other : goal.invariant-loop-other
invariant-loop-other l = record {
  made : ArePiecesOf l.fn.meter l.params ⊥
      (λ v. PairHas l.pairing (elements_of l.params l.piece v) (elements_of_all l.params (take l.other-index l.others) v)) l.made.items;
  used : IsChargedFrom (partners (are_paired l.pairing) (take l.other-index (spaces_of l.others)) l.piece.space) l.fn.meter l.meter;
}
