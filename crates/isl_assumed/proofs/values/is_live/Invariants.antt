use Rattle.std.proofs.Common.{take}
use Rattle.isl_meter.specs.Gauge.{IsCharged}
use Rattle.isl_space.specs.Valuation.{values_of}
use Rattle.isl_elim.specs.Elimination.{HoldsAtAny}
use Rattle.isl_union.specs.Piece.{kept_piece}
use Rattle.isl_assumed.specs.Values.{IsDeadAt}
use Rattle.isl_assumed.proofs.values.is_live.Given as goal

abbrev pub invariant-loop-system : goal.invariant-loop-system
invariant-loop-system l = record {
  dead : IsDeadAt (λ v. HoldsAtAny (take l.system-index l.systems) (values_of l.params v)) l.params (kept_piece l.piece);
  charged : IsCharged l.fn.meter l.meter;
}
