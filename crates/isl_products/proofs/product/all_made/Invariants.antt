use Rattle.std.proofs.Common.{◌≡◌, [], All, map, take}
use Rattle.isl_relation.specs.Together.{pairs_of, spaces_of}
use Rattle.isl_union.specs.Fault.{IsChargedFrom}
use Rattle.isl_union.specs.Piece.{kept_piece}
use Rattle.isl_union.proofs.PiecesLaws.{AreMade}
use Rattle.isl_products.specs.Layout.{are_together}
use Rattle.isl_products.specs.Made.{IsMadeWith}
use Rattle.isl_products.proofs.product.all_made.Given as goal

abbrev pub invariant-loop-piece : goal.invariant-loop-piece
invariant-loop-piece l = record {
  made : AreMade l.fn.meter l.params (IsMadeWith l.product l.params (map kept_piece l.others))
      (map kept_piece (take l.piece-index l.pieces)) l.made.items;
  definitions : All (λ piece. piece.system.definitions ≡ []) l.pieces → All (λ other. other.system.definitions ≡ []) l.others
      → All (λ piece. piece.definitions ≡ []) (map kept_piece l.made.items);
  used : IsChargedFrom (pairs_of (are_together l.product) (take l.piece-index (spaces_of l.pieces)) (spaces_of l.others)) l.fn.meter
      l.meter;
}
