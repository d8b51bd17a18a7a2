use Rattle.std.proofs.Common.{◌≡◌, ◌+◌, ◌-◌, ◌<◌, ◌++◌, ◌∷◌, [], ℤ, List, arith, get_or, length, refl, subst, sym}
use Rattle.std.specs.List.{All}
use Rattle.isl_meter.proofs.CutLemmas.{IsCharged_trans, IsCharged-unit}
use Rattle.isl_piece.specs.declared.system.System.{System}
use Rattle.isl_elim.specs.Elimination.{HoldsAtAny}
use Rattle.isl_tower.specs.Level.{AreOver}
use Rattle.isl_points.specs.Fibre.{IsEnded}
use Rattle.isl_points.specs.Level.{AreLonger}
use Rattle.isl_points.proofs.WalkLaws.{IsLowest, lowest_begins, lowest_count, lowest_ordered, lowest_widths, lowest_within, next_begins}
use Rattle.isl_points.proofs.WalkLaws.{begun_at, next_widths, over_charged, within_before}
use Rattle.isl_points.proofs.walk.points_of.Goals as goal

pub loop-height-init : goal.loop-height-init
loop-height-init c =
    let g = c.args.meter.now in
    let levels = c.args.tower.now in
    let points = c.in_ok-points.points in
    let is : c.level.result.now ≡ get_or levels 0 [] = c.level.ensures in
    let found : IsLowest (get_or levels 0 []) points = rw is at c.in_ok-points.ensures.0 in
    let few = lowest_count (get_or levels 0 []) points found in
    let used = c.in_ok-points.ensures.1 in
    record {
      exact = λ s t. lowest_begins s levels points t c.requires.levels.some found;
      widths = lowest_widths (get_or levels 0 []) points found;
      ordered = lowest_ordered (get_or levels 0 []) points found;
      within = lowest_within g (get_or levels 0 []) points found;
      counted = grind arith;
      charged = IsCharged-unit g c.lowest.new.meter used;
    }

pub all_longer-requires : goal.all_longer-requires
all_longer-requires c =
    let g = c.args.meter.now in
    let h = c.loop-height.meter in
    let levels = c.args.tower.now in
    let height = c.loop-height.height in
    let before = c.loop-height.invariant in
    let is : get_or levels height [] ≡ c.level-in-loop-height.result.now = sym c.level-in-loop-height.ensures in
    let inside : height < length levels = grind arith in
    let above : 0 < height = grind arith in
    record {
      over = subst (AreOver h height) is (over_charged g h height height (get_or levels height []) before.charged refl
          (c.requires.levels.over height inside));
      ended = subst (All IsEnded) is (c.requires.levels.ended height above inside);
      widths = λ i d l. let own = before.widths i d l in omega (arith, own, above);
      begun = subst (λ (systems : List System). All (λ q. (x : ℤ) × HoldsAtAny systems (q ++ x ∷ [])) c.loop-height.points) is
          (begun_at c.requires.tower.0 levels height c.loop-height.points c.requires.tower.1 above inside
          (before.exact c.requires.tower.0 c.requires.tower.1));
      some_column = above;
      ordered = before.ordered;
      within = rw before.charged.same before.within;
    }

pub loop-height-preserved : goal.loop-height-preserved
loop-height-preserved c =
    let g = c.args.meter.now in
    let h = c.loop-height.meter in
    let k = c.all_longer.new.meter in
    let levels = c.args.tower.now in
    let height = c.loop-height.height in
    let before = c.loop-height.invariant in
    let shorter = c.loop-height.points in
    let longer = c.in_ok-points-2.points in
    let is : c.level-in-loop-height.result.now ≡ get_or levels height [] = c.level-in-loop-height.ensures in
    let inside : height < length levels = grind arith in
    let above : 0 < height = grind arith in
    let more : AreLonger h k (get_or levels height []) shorter longer = rw is at c.in_ok-points-2.ensures.exact in
    let up : height ≡ height + 1 - 1 = grind arith in
    let low : height - 1 + 1 ≡ height + 1 - 1 = grind arith in
    record {
      exact = λ s t. rw up at (next_begins h k s levels height shorter longer t above inside (before.exact s t) more);
      widths = next_widths h k (get_or levels height []) (height - 1) (height + 1 - 1) shorter longer low before.widths more;
      ordered = more.ordered;
      within = within_before g h longer before.charged more.within;
      counted = (let a = more.counted in let b = before.charged.units in omega (arith, a, b));
      charged = IsCharged_trans g h k before.charged more.charged;
    }

pub returns-clause-exact : goal.returns-clause-exact
returns-clause-exact c = λ s t.
    let levels = c.args.tower.now in
    let some = c.requires.levels.some in
    let end : c.loop-height.height ≡ length levels = grind arith in
    rw end at (c.loop-height.invariant.exact s t)

pub lowest-requires : goal.lowest-requires
lowest-requires c =
    let is : get_or c.args.tower.now 0 [] ≡ c.level.result.now = sym c.level.ensures in
    subst (AreOver c.args.meter.now 0) is (c.requires.levels.over 0 c.requires.levels.some)
