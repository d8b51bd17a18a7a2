use Rattle.std.proofs.Common.{◌≡◌, [], All, map, take}
use Rattle.isl_relation.specs.Together.{partners, spaces_of}
use Rattle.isl_union.specs.Fault.{IsChargedFrom}
use Rattle.isl_union.specs.Piece.{kept_piece}
use Rattle.isl_union.proofs.PiecesLaws.{AreMade}
use Rattle.isl_products.specs.Layout.{are_together}
use Rattle.isl_products.specs.Made.{IsMadeOf}
use Rattle.isl_products.proofs.product.made_among.Given as goal

abbrev pub invariant-loop-other : goal.invariant-loop-other
invariant-loop-other l = record {
  made : AreMade l.fn.meter l.params (λ v e b. IsMadeOf l.product l.params v e (kept_piece l.piece) b)
      (map kept_piece (take l.other-index l.others)) l.made.items;
  definitions : l.piece.system.definitions ≡ [] → All (λ other. other.system.definitions ≡ []) l.others
      → All (λ piece. piece.definitions ≡ []) (map kept_piece l.made.items);
  used : IsChargedFrom (partners (are_together l.product) (take l.other-index (spaces_of l.others)) l.piece.space) l.fn.meter l.meter;
}
