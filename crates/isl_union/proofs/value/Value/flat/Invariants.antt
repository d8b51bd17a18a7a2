use Rattle.std.proofs.Common.{◌≡◌, ◌+◌, ◌≤◌, [], length, map, take}
use Rattle.std.specs.List.{All}
use Rattle.isl_meter.specs.Gauge.{IsCharged}
use Rattle.isl_union.specs.Flat.{AreFlatOf}
use Rattle.isl_union.specs.KeptValue.{HasElement, HasNoDefinitions}
use Rattle.isl_union.specs.Piece.{kept_piece}
use Rattle.isl_union.proofs.PiecesLaws.{AreMade}
use Rattle.isl_union.proofs.value.Value.flat.Given as goal

abbrev pub invariant-loop-piece : goal.invariant-loop-piece
invariant-loop-piece l = record {
  made : AreMade l.fn.meter l.params (HasElement l.params) (map kept_piece (take l.piece-index l.pieces)) l.kept.items;
  parts : AreFlatOf l.params (map kept_piece (take l.piece-index l.pieces)) (map kept_piece l.kept.items);
  plain : All (λ piece. piece.definitions ≡ []) (map kept_piece l.kept.items);
  charged : IsCharged l.fn.meter l.meter;
  counted : length l.kept.items + l.fn.meter.units ≤ l.meter.units + length (take l.piece-index l.pieces);
  same : HasNoDefinitions l.self → (l.kept.items ≡ take l.piece-index l.pieces) × (l.meter ≡ l.fn.meter);
}
