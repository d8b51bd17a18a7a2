use Rattle.std.proofs.Common.{take, Any}
use Rattle.isl_meter.specs.Gauge.{IsCharged}
use Rattle.isl_elim.specs.Sample.{IsNowhere}
use Rattle.isl_span.proofs.PointLaws.{HoldsBeside}
use Rattle.isl_span.proofs.points.point_with_any.Given as goal

abbrev pub invariant-loop-row : goal.invariant-loop-row
invariant-loop-row l = record {
  none : IsNowhere l.columns (λ point. Any (λ r. HoldsBeside l.system r point) (take l.row-index l.rows));
  charged : IsCharged l.fn.meter l.meter;
}
