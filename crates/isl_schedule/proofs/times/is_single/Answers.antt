use Rattle.std.proofs.Common.{◌≡◌, ◌<◌, ◌≤◌, true, false, arith, length, subst, sym}
use Rattle.std.proofs.lemmas.Grind.{common_steps}
use Rattle.isl_meter.specs.Gauge.{IsCharged}
use Rattle.isl_meter.proofs.CutLemmas.{IsCharged_trans}
use Rattle.isl_difference.proofs.BoundLaws.{all_found, not_so, one_all, one_missed}
use Rattle.isl_schedule.specs.Differ.{IsOver, IsSingleWith}
use Rattle.isl_schedule.specs.declared.visits.Visits.{Visits}
use Rattle.isl_schedule.proofs.TimeLaws.{over_later}
use Rattle.isl_schedule.proofs.times.is_single.Goals as goal

pub is_single_with-requires-clause-one : goal.is_single_with-requires-clause-one
is_single_with-requires-clause-one c =
    over_later c.args.meter.now c.loop-other.meter c.args.params.now c.args.one.now c.loop-other.invariant.1 c.requires.one

pub is_single_with-requires-clause-other : goal.is_single_with-requires-clause-other
is_single_with-requires-clause-other c =
    let g = c.args.meter.now in
    let x = c.other-item.result in
    let low : c.loop-other.other-index < length c.args.others.now = grind (arith, common_steps) in
    over_later g c.loop-other.meter c.args.params.now x c.loop-other.invariant.1
    (subst (IsOver g c.args.params.now) (sym c.other-item.is) (c.requires.others c.loop-other.other-index x low))

pub loop-other-preserved : goal.loop-other-preserved
loop-other-preserved c =
    let P : Visits → Type 0 = IsSingleWith c.args.params.now c.args.one.now in
    let i = c.loop-other.other-index in
    let x = c.other-item.result in
    let low : i < length c.args.others.now = grind (arith, common_steps) in
    let single : c.in_ok-is_single_with.field-0 ≡ true = grind (arith, common_steps) in
    let charged : IsCharged c.loop-other.meter c.is_single_with.new.meter = grind arith in (
      one_all P c.args.others.now i x low c.other-item.is (c.in_ok-is_single_with.ensures.exact.0 single) c.loop-other.invariant.0,
      IsCharged_trans c.args.meter.now c.loop-other.meter c.is_single_with.new.meter c.loop-other.invariant.1 charged,
    )

pub returns-clause-exact : goal.returns-clause-exact
returns-clause-exact c =
    let end : length c.args.others.now ≤ c.loop-other.other-index = grind (arith, common_steps) in
    all_found (IsSingleWith c.args.params.now c.args.one.now) c.args.others.now c.loop-other.other-index end c.loop-other.invariant.0

pub returns-then-not-branch-clause-exact : goal.returns-then-not-branch-clause-exact
returns-then-not-branch-clause-exact c =
    let P : Visits → Type 0 = IsSingleWith c.args.params.now c.args.one.now in
    let i = c.loop-other.other-index in
    let x = c.other-item.result in
    let low : i < length c.args.others.now = grind (arith, common_steps) in
    let several : c.in_ok-is_single_with.field-0 ≡ false = grind (arith, common_steps) in
    one_missed P c.args.others.now i x low c.other-item.is
    (not_so (P x) c.in_ok-is_single_with.field-0 several c.in_ok-is_single_with.ensures.exact)
