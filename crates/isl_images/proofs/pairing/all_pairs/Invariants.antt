use Rattle.std.proofs.Common.{take}
use Rattle.isl_union.specs.Fault.{IsChargedFrom}
use Rattle.isl_relation.specs.Together.{pairs_of, spaces_of}
use Rattle.isl_images.specs.Made.{elements_of_all, ArePiecesOf}
use Rattle.isl_images.specs.Pairing.{PairHas, are_paired}
use Rattle.isl_images.proofs.pairing.all_pairs.Given as goal

abbrev pub invariant-loop-piece : goal.invariant-loop-piece
invariant-loop-piece l = record {
  made : ArePiecesOf l.fn.meter l.params ⊥
      (λ v. PairHas l.pairing (elements_of_all l.params (take l.piece-index l.pieces) v) (elements_of_all l.params l.others v))
      l.made.items;
  used : IsChargedFrom (pairs_of (are_paired l.pairing) (take l.piece-index (spaces_of l.pieces)) (spaces_of l.others)) l.fn.meter l.meter;
}
