use Rattle.std.proofs.Common.{◌<◌, ◌≤◌, ap, arith, length, subst, sym, Any, List, ℤ}
use Rattle.isl_meter.specs.Gauge.{Gauge}
use Rattle.isl_meter.proofs.CutLemmas.{IsCharged_trans}
use Rattle.isl_piece.specs.declared.system.System.{System}
use Rattle.isl_elim.specs.Sample.{IsNowhere, IsSample}
use Rattle.isl_span.specs.Points.{IsOver}
use Rattle.isl_span.proofs.PointLaws.{HoldsBeside, nothing, nowhere_all, nowhere_more, over_later}
use Rattle.isl_span.proofs.points.point_of_any.Goals as goal

pub point_with_any-requires-clause-system : goal.point_with_any-requires-clause-system
point_with_any-requires-clause-system c =
    let g = c.args.meter.now in
    let n = c.args.columns in
    let systems = c.args.systems.now in
    let i = c.loop-system.system-index in
    let s = c.system-item.result in
    let low : i < length systems = omega arith in
    over_later g c.loop-system.meter n s (ap (λ (x : Gauge). x.bits) c.loop-system.invariant.charged.same)
    (subst (IsOver g n) (sym c.system-item.is) (c.requires.systems i s low))

pub loop-system-preserved : goal.loop-system-preserved
loop-system-preserved c =
    let n = c.args.columns in
    let systems = c.args.systems.now in
    let i = c.loop-system.system-index in
    let s = c.system-item.result in
    let low : i < length systems = omega arith in
    let P : System → List ℤ → Type 0 = λ s point. Any (λ r. HoldsBeside s r point) c.args.rows.now in
    record {
      none = nowhere_more P n systems i s low c.system-item.is c.loop-system.invariant.none
          (nothing c.in_ok-point.field-0 (IsNowhere n (P s)) (λ point. IsSample c.loop-system.meter n (P s) point.items)
          c.in_default.not-Some c.in_ok-point.ensures.exact);
      charged = IsCharged_trans c.args.meter.now c.loop-system.meter c.point_with_any.new.meter c.loop-system.invariant.charged
          c.in_ok-point.ensures.meter;
    }

pub returns-clause-exact : goal.returns-clause-exact
returns-clause-exact c =
    let end : length c.args.systems.now ≤ c.loop-system.system-index = omega arith in
    let P : System → List ℤ → Type 0 = λ s point. Any (λ r. HoldsBeside s r point) c.args.rows.now in
    nowhere_all P c.args.columns c.args.systems.now c.loop-system.system-index end c.loop-system.invariant.none
