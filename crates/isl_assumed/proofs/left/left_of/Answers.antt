use Rattle.std.proofs.Common.{◌≡◌, ◌≤◌, ◌+◌, length, subst, arith, List}
use Rattle.std.proofs.lemmas.List.{take_all}
use Rattle.isl_meter.proofs.CutLemmas.{IsCharged_trans}
use Rattle.isl_piece.specs.declared.system.System.{System}
use Rattle.isl_piece.specs.System.{free_columns}
use Rattle.isl_difference.proofs.DifferenceLaws.{system_at, system_within}
use Rattle.isl_assumed.specs.Left.{AreLeftOf}
use Rattle.isl_assumed.proofs.LeftLaws.{left_more}
use Rattle.isl_assumed.proofs.left.left_of.Goals as goal

pub live_without-requires-clause-within : goal.live_without-requires-clause-within
live_without-requires-clause-within c =
    system_within c.args.meter.now c.loop-system.meter c.args.systems.now c.loop-system.system-index c.system-item.result
    c.loop-system.invariant.charged c.requires.within c.loop-system-test.true c.system-item.is

pub live_without-requires-clause-columns : goal.live_without-requires-clause-columns
live_without-requires-clause-columns c =
    system_at (λ t. free_columns t ≡ c.args.kept + c.args.count) c.args.systems.now c.loop-system.system-index c.system-item.result
    c.requires.columns c.loop-system-test.true c.system-item.is

pub loop-system-preserved : goal.loop-system-preserved
loop-system-preserved c =
    let g = c.args.meter.now in
    let h = c.loop-system.meter in
    let so_far = c.loop-system.invariant in
    record {
      left = left_more g h c.args.kept c.args.count c.args.systems.now c.loop-system.system-index c.system-item.result
          c.loop-system.left.items c.in_ok-more.more.items c.append.new.systems.items c.loop-system-test.true c.system-item.is
          so_far.charged c.in_ok-append.ensures.items so_far.left c.in_ok-more.ensures.left;
      charged = IsCharged_trans g h c.live_without.new.meter so_far.charged c.in_ok-more.ensures.meter;
    }

pub returns-clause-left : goal.returns-clause-left
returns-clause-left c =
    let systems = c.args.systems.now in
    let end : length systems ≤ c.loop-system.system-index = omega arith in
    subst (λ (l : List System). AreLeftOf c.args.meter.now c.args.kept c.args.count l c.loop-system.left.items)
    (take_all c.loop-system.system-index systems end) c.loop-system.invariant.left
