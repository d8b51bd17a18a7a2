use Rattle.std.proofs.Common.{◌<◌, ◌≤◌, ap, arith, length}
use Rattle.std.proofs.lemmas.Grind.{common_steps}
use Rattle.isl_meter.specs.Gauge.{Gauge}
use Rattle.isl_meter.proofs.CutLemmas.{IsCharged_trans}
use Rattle.isl_elim.specs.Sample.{IsNowhere, IsSample}
use Rattle.isl_span.proofs.PointLaws.{HoldsBeside, nothing, nowhere_all, nowhere_more, over_later}
use Rattle.isl_span.proofs.points.point_with_any.Goals as goal

pub point_with-requires-clause-system : goal.point_with-requires-clause-system
point_with-requires-clause-system c =
    over_later c.args.meter.now c.loop-row.meter c.args.columns c.args.system.now
    (ap (λ (x : Gauge). x.bits) c.loop-row.invariant.charged.same) c.requires.system

pub loop-row-preserved : goal.loop-row-preserved
loop-row-preserved c =
    let n = c.args.columns in
    let system = c.args.system.now in
    let rows = c.args.rows.now in
    let i = c.loop-row.row-index in
    let r = c.row-item.result in
    let low : i < length rows = grind (arith, common_steps) in
    record {
      none = nowhere_more (HoldsBeside system) n rows i r low (grind (arith, common_steps)) c.loop-row.invariant.none
          (nothing c.in_ok-point.field-0 (IsNowhere n (HoldsBeside system r))
          (λ point. IsSample c.loop-row.meter n (HoldsBeside system r) point.items)
          c.in_default.not-Some c.in_ok-point.ensures.exact);
      charged = IsCharged_trans c.args.meter.now c.loop-row.meter c.point_with.new.meter c.loop-row.invariant.charged
          c.in_ok-point.ensures.meter;
    }

pub returns-clause-exact : goal.returns-clause-exact
returns-clause-exact c =
    let end : length c.args.rows.now ≤ c.loop-row.row-index = grind (arith, common_steps) in
    nowhere_all (HoldsBeside c.args.system.now) c.args.columns c.args.rows.now c.loop-row.row-index end c.loop-row.invariant.none
