use Rattle.std.proofs.Common.{◌≡◌, ◌+◌, ◌*◌, ◌≤◌, ◌∷◌, [], length, take, ℕ}
use Rattle.std.specs.List.{All}
use Rattle.isl_meter.specs.Gauge.{IsCharged}
use Rattle.isl_ledger.specs.Difference.{HasDifferenceRows}
use Rattle.isl_span.specs.Chain.{IsNoEquation}
use Rattle.isl_span.specs.Points.{IsPoint}
use Rattle.isl_span.specs.Work.{test_units}
use Rattle.isl_span.proofs.last.equation_among.Given as goal

abbrev pub invariant-loop-row : goal.invariant-loop-row
invariant-loop-row l = record {
  none : All (λ r. r.kind ≡ l.kind → IsNoEquation l.last (IsPoint (l.last + 1) (l.system ∷ [])) r) (take l.row-index l.system.rows);
  charged : IsCharged l.fn.meter l.meter;
  tame : (bits : ℕ) → l.fn.meter.bits ≡ 127 → bits + 1 + (l.last + 1) ≤ 120 → HasDifferenceRows (l.last + 1) bits l.system
      → l.meter.units ≤ l.fn.meter.units + length (take l.row-index l.system.rows) * test_units (l.last + 1);
}
