use Rattle.std.proofs.Common.{◌≡◌, ◌↔◌, ◌<◌, List, arith, length, subst, take}
use Rattle.std.specs.List.{All}
use Rattle.std.proofs.lemmas.Grind.{common_steps}
use Rattle.std.proofs.lemmas.List.Elements.{All-nil}
use Rattle.isl_meter.specs.Gauge.{Gauge}
use Rattle.isl_piece.specs.declared.row.Row.{Row}
use Rattle.isl_points.specs.Progression.{IsOn, IsProgression, MeetsCongruence}
use Rattle.isl_points.proofs.ListLaws.{all_more}
use Rattle.isl_points.proofs.progression.Progression.of.Goals as goal

pub loop-row-init : goal.loop-row-init
loop-row-init c = record {
  steps = c.whole-found.ensures.is;
  exact = λ x. ((λ h. All-nil (MeetsCongruence x)), (λ a. c.whole-found.ensures.exact x));
  meter = grind arith;
}

pub loop-row-preserved : goal.loop-row-preserved
loop-row-preserved c =
    let rows = c.args.rows.now in
    let i = c.loop-row.row-index in
    let inside : i < length rows = grind (arith, common_steps) in
    let before = c.loop-row.invariant in
    let met = rw c.in-Some.is at c.in_ok-met.ensures in
    let same : c.loop-row.meter ≡ c.args.meter.now = before.meter in
    record {
      steps = subst (λ (g : Gauge). IsProgression g c.in-Some.next) same met.0.0;
      exact = λ x.
          let more = all_more (MeetsCongruence x) rows i c.row-item.result inside c.row-item.is in (
            (λ h. let p = (met.0.1 x).0 h in more.1 ((before.exact x).0 p.0, p.1)),
            (λ a. let p = more.0 a in (met.0.1 x).1 ((before.exact x).1 p.0, p.1)),
          );
      meter = grind arith;
    }

pub returns : goal.returns
returns c =
    let rows = c.args.rows.now in
    let whole : take c.loop-row.row-index rows ≡ rows = grind (arith, common_steps) in
    let before = c.loop-row.invariant in (
      (
        before.steps,
        (λ x. subst (λ (xs : List Row). IsOn c.loop-row.found x ↔ All (MeetsCongruence x) xs) whole (before.exact x)),
      ),
      before.meter,
    )
