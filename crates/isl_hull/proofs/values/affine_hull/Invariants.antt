use Rattle.std.proofs.Common.{◌≡◌, ◌≢◌, ◌+◌, ◌*◌, ◌≤◌, length, map, take}
use Rattle.std.specs.Prelude.{AllPairs}
use Rattle.isl_meter.specs.Gauge.{IsCharged}
use Rattle.isl_space.specs.Space.{space_form_of}
use Rattle.isl_ledger.specs.Work.{Size}
use Rattle.isl_span.specs.Work.{hull_units}
use Rattle.isl_union.specs.Tame.{IsOfSize}
use Rattle.isl_hull.specs.Values.{AreHullsIn}
use Rattle.isl_hull.proofs.values.affine_hull.Given as goal

abbrev pub invariant-loop-space : goal.invariant-loop-space
invariant-loop-space l = record {
  hulls : AreHullsIn l.fn.meter l.value (map space_form_of (take l.space-index l.space-items)) l.hulls.items;
  charged : IsCharged l.fn.meter l.meter;
  tame : (size : Size) → l.fn.meter.bits ≡ 127 → size.bits + size.columns ≤ 119 → IsOfSize l.value.params size l.value
      → AllPairs (λ p q. p.space ≢ q.space) l.value.pieces
      → l.meter.units ≤ l.fn.meter.units + length (take l.space-index l.space-items) * hull_units size.columns;
}
