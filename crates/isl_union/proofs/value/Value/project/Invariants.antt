use Rattle.std.proofs.Common.{◌≡◌, ◌+◌, ◌*◌, ◌-◌, ◌≤◌, [], length, map, take}
use Rattle.std.specs.List.{All}
use Rattle.isl_meter.specs.Gauge.{IsCharged}
use Rattle.isl_space.specs.Space.{space_form_of}
use Rattle.isl_ledger.specs.Difference.{IsDifferenceSystem}
use Rattle.isl_ledger.specs.Work.{Size, AreOfSize}
use Rattle.isl_union.specs.KeptValue.{HasNoDefinitions}
use Rattle.isl_union.specs.Piece.{kept_piece}
use Rattle.isl_union.specs.Tame.{size_of, systems_of}
use Rattle.isl_union.proofs.PiecesLaws.{AreMade}
use Rattle.isl_union.proofs.ProjectLaws.{HasBetween}
use Rattle.isl_union.proofs.value.Value.project.Given as goal

abbrev pub invariant-loop-piece : goal.invariant-loop-piece
invariant-loop-piece l = record {
  made : AreMade l.fn.meter l.params (HasBetween l.params (space_form_of l.space) l.from l.count (space_form_of l.to))
      (map kept_piece (take l.piece-index l.pieces)) l.kept.items;
  plain : HasNoDefinitions l.self → All (λ piece. piece.definitions ≡ []) (map kept_piece l.kept.items);
  tame : (size : Size) → l.fn.meter.bits ≡ 127 → size.bits + size.columns ≤ 120
      → All (IsDifferenceSystem size.columns size.bits) (systems_of l.pieces)
      → (l.meter.units ≤ l.fn.meter.units + l.piece-index * ((l.count + size.columns) * (size.columns * size.columns)))
      × AreOfSize (size_of l.piece-index (size.columns - l.count) (size.bits + l.count)) (systems_of l.kept.items);
  charged : IsCharged l.fn.meter l.meter;
  counted : length l.kept.items + l.fn.meter.units ≤ l.meter.units + length (take l.piece-index l.pieces);
}
