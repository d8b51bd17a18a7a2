use Rattle.std.proofs.Common.{◌≡◌, ◌∙◌, ◌+◌, ◌<◌, ◌≤◌, ap, arith, length, subst, sym, take}
use Rattle.isl_piece.specs.System.{HoldsSystem, IsSystemWithin}
use Rattle.isl_ledger.specs.Difference.{IsDifferenceSystem}
use Rattle.isl_difference.proofs.DifferenceLaws.{system_at}
use Rattle.isl_span.specs.Points.{IsOver}
use Rattle.isl_span.proofs.FewLaws.{AreFewer, fewer_all, fewer_first, fewer_size, next_none, next_some}
use Rattle.isl_span.proofs.few.all_with_few_rows.Goals as goal
use Rattle.isl_span.proofs.few.all_with_few_rows.Goals.{in-Some+in_ok-push, in_default}

pub with_few_rows-requires : goal.with_few_rows-requires
with_few_rows-requires c =
    let g = c.args.meter.now in
    let systems = c.args.systems.now in
    let i = c.loop-system.system-index in
    let low : i < length systems = c.loop-system-test.true in
    (system_at (IsOver g c.args.columns) systems i c.system-item.result c.requires low c.system-item.is).within

pub loop-system-preserved : goal.loop-system-preserved
loop-system-preserved c =
    let g = c.args.meter.now in
    let n = c.args.columns in
    let systems = c.args.systems.now in
    let i = c.loop-system.system-index in
    let s = c.system-item.result in
    let few = c.loop-system.few.items in
    let low : i < length systems = c.loop-system-test.true in
    let over = system_at (IsOver g n) systems i s c.requires low c.system-item.is in
    elim c.match-branch-3.branch [
      | in-Some+in_ok-push w ↦
          subst (AreFewer g n (take (i + 1) systems)) (sym (ap (λ v. v.items) w.few-is ∙ w.in_ok-push.ensures.items))
          (next_some g n systems few i s low c.system-item.is c.loop-system.invariant w.in-Some.one over
          (rw w.in-Some.is at c.in_ok-one.ensures.exact)
          (λ k bits d. rw w.in-Some.is at (c.in_ok-one.ensures.differences k bits d)))
      | in_default w ↦
          subst (AreFewer g n (take (i + 1) systems)) (ap (λ v. v.items) (sym w.few-is))
          (next_none g n systems few i s low c.system-item.is c.loop-system.invariant
          (rw w.in_default.is at c.in_ok-one.ensures.exact))
    ]

pub returns-clause-over : goal.returns-clause-over
returns-clause-over c =
    let end : length c.args.systems.now ≤ c.loop-system.system-index = omega arith in
    (fewer_all c.args.meter.now c.args.columns c.args.systems.now c.loop-system.few.items c.loop-system.system-index end
    c.loop-system.invariant).over

pub returns-clause-points : goal.returns-clause-points
returns-clause-points c = λ point.
    let end : length c.args.systems.now ≤ c.loop-system.system-index = omega arith in
    (fewer_all c.args.meter.now c.args.columns c.args.systems.now c.loop-system.few.items c.loop-system.system-index end
    c.loop-system.invariant).points point

pub returns-clause-size : goal.returns-clause-size
returns-clause-size c = λ size of.
    let end : length c.args.systems.now ≤ c.loop-system.system-index = omega arith in
    let are = fewer_all c.args.meter.now c.args.columns c.args.systems.now c.loop-system.few.items c.loop-system.system-index end
    c.loop-system.invariant in
    fewer_size c.args.meter.now c.args.columns c.args.systems.now c.loop-system.few.items size are of
