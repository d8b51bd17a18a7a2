use Rattle.std.proofs.Common.{◌≡◌, ◌<◌, ◌≤◌, [], length, get_or, arith, subst, true, false}
use Rattle.std.specs.List.{All}
use Rattle.isl_meter.specs.Gauge.{IsCharged}
use Rattle.isl_meter.proofs.CutLemmas.{IsCharged_trans}
use Rattle.isl_tower.specs.Closed.{IsClosed}
use Rattle.isl_tower.proofs.ClosedLaws.{bounded_false, bounded_true, closed_enough, closed_more, level_columns, not_true, systems_within}
use Rattle.isl_tower.proofs.tower.Tower.is_bounded.Goals as goal

pub loop-height-preserved : goal.loop-height-preserved
loop-height-preserved c =
    let g = c.args.self.now in
    let height = c.loop-height.height in
    let is : c.level.result.now ≡ get_or g height [] = grind arith in
    let exact = c.in_ok-are_closed.ensures.exact in
    let yes : c.in_ok-are_closed.field-0 ≡ true = grind arith in
    let all : All IsClosed c.level.result.now = exact.0.0 yes in
    let charged : IsCharged c.loop-height.meter c.are_closed.new.meter = grind arith in (
      closed_more g height c.loop-height.invariant.0 (subst (All IsClosed) is all),
      IsCharged_trans c.args.meter.now c.loop-height.meter c.are_closed.new.meter c.loop-height.invariant.1 charged,
    )

pub are_closed-requires : goal.are_closed-requires
are_closed-requires c =
    let g = c.args.meter.now in
    let h = c.loop-height.meter in
    let levels = c.args.self.now in
    let height = c.loop-height.height in
    let is : c.level.result.now ≡ get_or levels height [] = grind arith in
    let inside : height < length levels = grind arith in
    let above : 0 < height = grind arith in
    rw is (record {
      within = systems_within g h (get_or levels height []) c.loop-height.invariant.1 (c.requires.plain height [] inside)
          (c.requires.within height [] inside);
      plain = c.requires.plain height [] inside;
      some_column = level_columns levels height c.requires.tower above inside;
    })

pub returns-then-not-branch-clause-exact : goal.returns-then-not-branch-clause-exact
returns-then-not-branch-clause-exact c = λ s outer t.
    let levels = c.args.self.now in
    let height = c.loop-height.height in
    let is : get_or levels height [] ≡ c.level.result.now = grind arith in
    let inside : height < length levels = grind arith in
    let above : 0 < height = grind arith in
    let no : c.in_ok-are_closed.field-0 ≡ false = grind arith in
    bounded_false c.args.meter.now s outer levels height t c.requires.within c.requires.plain above inside
    (λ all. not_true c.in_ok-are_closed.field-0 no (c.in_ok-are_closed.ensures.exact.0.1 (subst (All IsClosed) is all)))

pub returns : goal.returns
returns c =
    let levels = c.args.self.now in
    let past : length levels ≤ c.loop-height.height = grind arith in
    record {
      exact = λ s outer t. bounded_true c.args.meter.now s outer levels t c.requires.within c.requires.plain
          (closed_enough levels c.loop-height.height past c.loop-height.invariant.0);
      meter = c.loop-height.invariant.1;
    }
