use Rattle.std.proofs.Common.{◌≡◌, ◌<◌, ◌≤◌, true, false, arith, length, subst, sym, get_or}
use Rattle.std.specs.List.{All}
use Rattle.std.proofs.lemmas.Grind.{common_steps}
use Rattle.isl_meter.specs.Gauge.{IsCharged}
use Rattle.isl_meter.proofs.CutLemmas.{IsCharged_trans}
use Rattle.isl_difference.proofs.BoundLaws.{all_found, not_so, one_all, one_missed}
use Rattle.isl_schedule.specs.Differ.{IsOver, IsSingleWith}
use Rattle.isl_schedule.specs.declared.visits.Visits.{Visits}
use Rattle.isl_schedule.proofs.TimeLaws.{over_later}
use Rattle.isl_schedule.proofs.times.are_single.Goals as goal

pub is_single-requires-clause-one : goal.is_single-requires-clause-one
is_single-requires-clause-one c =
    let g = c.args.meter.now in
    let x = c.one-item.result in
    let low : c.loop-one.one-index < length c.args.visits.now = grind (arith, common_steps) in
    over_later g c.loop-one.meter c.args.params.now x c.loop-one.invariant.1
    (subst (IsOver g c.args.params.now) (sym c.one-item.is) (c.requires.over c.loop-one.one-index x low))

pub is_single-requires-clause-others : goal.is_single-requires-clause-others
is_single-requires-clause-others c = λ k d low.
    over_later c.args.meter.now c.loop-one.meter c.args.params.now (get_or c.args.visits.now k d) c.loop-one.invariant.1
    (c.requires.over k d low)

pub loop-one-preserved : goal.loop-one-preserved
loop-one-preserved c =
    let all = c.args.visits.now in
    let P : Visits → Type 0 = λ (one : Visits). All (λ other. IsSingleWith c.args.params.now one other) all in
    let i = c.loop-one.one-index in
    let x = c.one-item.result in
    let low : i < length all = grind (arith, common_steps) in
    let single : c.in_ok-is_single.field-0 ≡ true = grind (arith, common_steps) in
    let charged : IsCharged c.loop-one.meter c.is_single.new.meter = grind arith in (
      one_all P all i x low c.one-item.is (c.in_ok-is_single.ensures.exact.0 single) c.loop-one.invariant.0,
      IsCharged_trans c.args.meter.now c.loop-one.meter c.is_single.new.meter c.loop-one.invariant.1 charged,
    )

pub returns-clause-exact : goal.returns-clause-exact
returns-clause-exact c =
    let all = c.args.visits.now in
    let end : length all ≤ c.loop-one.one-index = grind (arith, common_steps) in
    all_found (λ (one : Visits). All (λ other. IsSingleWith c.args.params.now one other) all) all c.loop-one.one-index end
    c.loop-one.invariant.0

pub returns-then-not-branch-clause-exact : goal.returns-then-not-branch-clause-exact
returns-then-not-branch-clause-exact c =
    let all = c.args.visits.now in
    let P : Visits → Type 0 = λ (one : Visits). All (λ other. IsSingleWith c.args.params.now one other) all in
    let i = c.loop-one.one-index in
    let x = c.one-item.result in
    let low : i < length all = grind (arith, common_steps) in
    let several : c.in_ok-is_single.field-0 ≡ false = grind (arith, common_steps) in
    one_missed P all i x low c.one-item.is
    (not_so (P x) c.in_ok-is_single.field-0 several c.in_ok-is_single.ensures.exact)
