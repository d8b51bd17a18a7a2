use Rattle.std.proofs.Common.{◌≡◌, ◌≢◌, pos, subst, Any, IfOk, List, MatchOption, ℤ}
use Rattle.std.proofs.lemmas.Result.{IfOk-weaker}
use Rattle.isl_meter.specs.Gauge.{Gauge}
use Rattle.isl_piece.specs.Row.{value_at}
use Rattle.isl_elim.specs.Elimination.{HoldsAtAny}
use Rattle.isl_elim.specs.Sample.{IsNowhere, IsSample}
use Rattle.isl_span.specs.Points.{IsPoint}
use Rattle.isl_span.proofs.PointLaws.{HoldsBeside, off_found}
use Rattle.isl_span.proofs.points.point_off.Goals as goal

pub returns-clause-exact : goal.returns-clause-exact
returns-clause-exact c =
    let g = c.args.meter.now in
    let n = c.args.columns in
    let systems = c.args.systems.now in
    let form = c.args.form.now in
    let sides = c.in_ok-sides.sides in
    let P : List ℤ → Type 0 = λ point. Any (λ s. Any (λ r. HoldsBeside s r point) sides) systems in
    let found = subst (λ (m : Gauge). IfOk c.point_of_any.result
    (λ found. MatchOption found (IsNowhere n P) (λ point. IsSample m n P point.items)))
    c.in_ok-sides.ensures.exact.1 c.point_of_any.ensures.exact in
    IfOk-weaker c.point_of_any.result
    (λ found. MatchOption found (IsNowhere n P) (λ point. IsSample g n P point.items))
    (λ found. MatchOption found ((point : List ℤ) → IsPoint n systems point → value_at form point ≡ pos 0)
    (λ point. IsSample g n (λ q. HoldsAtAny systems q × (value_at form q ≢ pos 0)) point.items))
    (λ found h. off_found form c.requires.form.kind sides c.in_ok-sides.ensures.points systems (λ point. point.items) g n found h) found
