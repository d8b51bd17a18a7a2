use Rattle.std.proofs.Common.{◌≡◌, [], All, map, take}
use Rattle.isl_meter.specs.Gauge.{IsCharged}
use Rattle.isl_piece.specs.declared.system.System.{System}
use Rattle.isl_union.specs.KeptValue.{KeptPiece, HasNoDefinitions}
use Rattle.isl_union.specs.Piece.{kept_piece}
use Rattle.isl_union.proofs.PiecesLaws.{AreMade}
use Rattle.isl_assumed.proofs.ValueLaws.{HasUnder}
use Rattle.isl_assumed.proofs.values.under_region.Given as goal

abbrev pub invariant-loop-piece : goal.invariant-loop-piece
invariant-loop-piece l = record {
  made : AreMade l.fn.meter l.params (HasUnder l.params l.systems.items) (map kept_piece (take l.piece-index l.pieces)) l.kept.items;
  plain : HasNoDefinitions l.value → All (λ (s : System). s.definitions ≡ []) l.systems.items
      → All (λ (p : KeptPiece). p.definitions ≡ []) (map kept_piece l.kept.items);
  charged : IsCharged l.fn.meter l.meter;
}
