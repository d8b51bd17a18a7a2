use Rattle.std.proofs.Common.{take, Any}
use Rattle.isl_meter.specs.Gauge.{IsCharged}
use Rattle.isl_elim.specs.Sample.{IsNowhere}
use Rattle.isl_span.proofs.PointLaws.{HoldsBeside}
use Rattle.isl_span.proofs.points.point_of_any.Given as goal

abbrev pub invariant-loop-system : goal.invariant-loop-system
invariant-loop-system l = record {
  none : IsNowhere l.columns (λ point. Any (λ s. Any (λ r. HoldsBeside s r point) l.rows) (take l.system-index l.systems));
  charged : IsCharged l.fn.meter l.meter;
}
