use Rattle.std.proofs.Common.{◌≡◌, ◌+◌, ◌*◌, ◌≤◌, ℕ, length}
use Rattle.std.specs.List.{All}
use Rattle.isl_meter.specs.Gauge.{IsCharged}
use Rattle.isl_space.specs.Space.{space_form_of}
use Rattle.isl_ledger.specs.Difference.{IsDifferenceSystem}
use Rattle.isl_difference.specs.Tame.{HasNormalDifferences}
use Rattle.isl_union.specs.Piece.{IsPieceOf}
use Rattle.isl_union.proofs.PiecesLaws.{AreLiveSoFar}
use Rattle.isl_union.proofs.pieces.live_pieces_in.Given as goal

abbrev pub invariant-loop-system : goal.invariant-loop-system
invariant-loop-system l = record {
  live : AreLiveSoFar l.params (space_form_of l.space) l.fn.systems.items l.system-iterator.rest.items l.kept.items;
  sound : All (IsPieceOf l.params) l.kept.items;
  charged : IsCharged l.fn.meter l.meter;
  tame : (columns bits : ℕ) → l.fn.meter.bits ≡ 127 → bits + columns ≤ 120 → All (HasNormalDifferences columns bits) l.fn.systems.items
      → (l.meter.units + length l.system-iterator.rest.items * (columns * (columns * columns))
      ≤ l.fn.meter.units + length l.fn.systems.items * (columns * (columns * columns)))
      × All (λ piece. IsDifferenceSystem columns bits piece.system) l.kept.items;
  few : length l.kept.items + length l.system-iterator.rest.items ≤ length l.fn.systems.items;
}
