use Rattle.std.proofs.Common.{◌≡◌, ◌+◌, ◌≤◌, [], All, length, map, take}
use Rattle.isl_meter.specs.Gauge.{IsCharged}
use Rattle.isl_union.specs.Piece.{kept_piece}
use Rattle.isl_union.proofs.PiecesLaws.{AreMade}
use Rattle.isl_products.specs.Made.{IsApartFrom}
use Rattle.isl_products.proofs.remove.pieces_without.Given as goal

abbrev pub invariant-loop-piece : goal.invariant-loop-piece
invariant-loop-piece l = record {
  left : AreMade l.fn.meter l.params (IsApartFrom l.place l.params (map kept_piece l.others))
      (map kept_piece (take l.piece-index l.pieces)) l.left.items;
  definitions : All (λ piece. piece.system.definitions ≡ []) l.pieces → All (λ other. other.system.definitions ≡ []) l.others
      → All (λ part. part.definitions ≡ []) (map kept_piece l.left.items);
  charged : IsCharged l.fn.meter l.meter;
  counted : length l.left.items + l.fn.meter.units ≤ l.meter.units + length (take l.piece-index l.pieces);
}
