use Rattle.std.proofs.Common.{◌≡◌, ◌↔◌, ◌<◌, List, arith, length, subst, take}
use Rattle.std.specs.List.{All}
use Rattle.std.proofs.lemmas.Grind.{common_steps}
use Rattle.isl_piece.specs.declared.row.Row.{Row}
use Rattle.isl_piece.specs.Row.{coef_at}
use Rattle.isl_points.specs.Interval.{IsBetween, MeetsBound}
use Rattle.isl_tower.specs.Ends.{EndsAbove, EndsBelow}
use Rattle.isl_points.proofs.ListLaws.{all_more}
use Rattle.isl_points.proofs.interval.Interval.of.Goals as goal

pub loop-row-preserved : goal.loop-row-preserved
loop-row-preserved c =
    let rows = c.args.rows.now in
    let i = c.loop-row.row-index in
    let row = c.row-item.result in
    let inside : i < length rows = grind (arith, common_steps) in
    let before = c.loop-row.invariant in
    let met = c.met-interval.ensures in
    let below : Row → Type 0 = λ r. ¬ EndsBelow r.kind (coef_at r 0) in
    let above : Row → Type 0 = λ r. ¬ EndsAbove r.kind (coef_at r 0) in
    record {
      exact = λ x.
          let more = all_more (MeetsBound x) rows i row inside c.row-item.is in (
            (λ h. let p = (met.exact x).0 h in more.1 ((before.exact x).0 p.0, p.1)),
            (λ a. let p = more.0 a in (met.exact x).1 ((before.exact x).1 p.0, p.1)),
          );
      low = λ n. let p = met.low n in (all_more below rows i row inside c.row-item.is).1 (before.low p.0, p.1);
      high = λ n. let p = met.high n in (all_more above rows i row inside c.row-item.is).1 (before.high p.0, p.1);
      within = met.within;
    }

pub returns : goal.returns
returns c =
    let rows = c.args.rows.now in
    let whole : take c.loop-row.row-index rows ≡ rows = grind (arith, common_steps) in
    let before = c.loop-row.invariant in
    record {
      exact = λ x. subst (λ (xs : List Row). IsBetween c.loop-row.interval x ↔ All (MeetsBound x) xs) whole (before.exact x);
      low = λ n. subst (λ (xs : List Row). All (λ (r : Row). ¬ EndsBelow r.kind (coef_at r 0)) xs) whole (before.low n);
      high = λ n. subst (λ (xs : List Row). All (λ (r : Row). ¬ EndsAbove r.kind (coef_at r 0)) xs) whole (before.high n);
      within = before.within;
    }
