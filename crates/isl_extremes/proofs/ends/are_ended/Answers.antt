use Rattle.std.proofs.Common.{◌≡◌, ◌<◌, ◌≤◌, arith, ◌+◌, false, length}
use Rattle.std.specs.Prelude.{IsTrue}
use Rattle.std.proofs.lemmas.Grind.{common_steps}
use Rattle.isl_meter.proofs.CutLemmas.{IsCharged_trans}
use Rattle.isl_difference.specs.Split.{IsLive}
use Rattle.isl_difference.proofs.DifferenceLaws.{system_at, system_within}
use Rattle.isl_extremes.proofs.AnswerLaws.{ended_all, ended_more, ended_not, not_true}
use Rattle.isl_extremes.proofs.SystemsLaws.{plain_within, IsPlain}
use Rattle.isl_extremes.proofs.ends.are_ended.Goals as goal

pub is_ended-requires : goal.is_ended-requires
is_ended-requires c =
    let g = c.args.meter.now in
    let systems = c.args.systems.now in
    let i = c.loop-system.system-index in
    let s = c.system-item.result in
    let n = c.args.order.front + c.args.order.width in
    let low : i < length systems = omega arith in
    record {
      within = system_within g c.loop-system.meter systems i s c.loop-system.invariant.charged
          (plain_within g n systems c.requires.systems) low
          c.system-item.is;
      plain = system_at IsPlain systems i s c.requires.systems.plain low c.system-item.is;
      free = (system_at (IsLive g n) systems i s c.requires.systems.live low c.system-item.is).free;
      at = c.requires.at;
    }

pub loop-system-preserved : goal.loop-system-preserved
loop-system-preserved c =
    let systems = c.args.systems.now in
    let i = c.loop-system.system-index in
    let low : i < length systems = omega arith in
    let holds : IsTrue c.in_ok-is_ended.field-0 = grind (arith, common_steps) in
    record {
      ended = ended_more c.args.order c.args.at systems i c.system-item.result c.in_ok-is_ended.field-0 low c.system-item.is
          c.loop-system.invariant.ended c.in_ok-is_ended.ensures.answer holds;
      charged = IsCharged_trans c.args.meter.now c.loop-system.meter c.is_ended.new.meter c.loop-system.invariant.charged
          c.in_ok-is_ended.ensures.meter;
    }

pub returns-then-not-branch-clause-answer : goal.returns-then-not-branch-clause-answer
returns-then-not-branch-clause-answer c =
    let systems = c.args.systems.now in
    let i = c.loop-system.system-index in
    let low : i < length systems = omega arith in
    let is : c.in_ok-is_ended.field-0 ≡ false = grind (arith, common_steps) in
    ended_not c.args.order c.args.at systems i c.system-item.result c.in_ok-is_ended.field-0 low c.system-item.is
    c.in_ok-is_ended.ensures.answer (not_true c.in_ok-is_ended.field-0 is)

pub returns-clause-answer : goal.returns-clause-answer
returns-clause-answer c =
    let systems = c.args.systems.now in
    let i = c.loop-system.system-index in
    let end : length systems ≤ i = omega arith in
    ended_all c.args.order c.args.at systems i end c.loop-system.invariant.ended
