use Rattle.std.proofs.Common.{◌≤◌, arith, get_or, length}
use Rattle.std.proofs.lemmas.List.{take_all}
use Rattle.isl_meter.proofs.CutLemmas.{IsCharged_trans}
use Rattle.isl_difference.specs.Split.{IsLive}
use Rattle.isl_difference.proofs.DifferenceLaws.{system_at}
use Rattle.isl_difference.proofs.SplitLaws.{charged_within}
use Rattle.isl_union.proofs.MeetSteps.{charged_bits}
use Rattle.isl_assumed.proofs.PairLaws.{counts_more}
use Rattle.isl_assumed.proofs.RegionLaws.{met_more}
use Rattle.isl_assumed.proofs.region.all_pairs.Goals as goal

pub pairs-requires-clause-system : goal.pairs-requires-clause-system
pairs-requires-clause-system c =
    let g = c.args.meter.now in
    let live = system_at (IsLive g c.args.names) c.args.systems.now c.loop-system.system-index c.system-item.result c.requires.systems
    c.loop-system-test.true c.system-item.is in
    charged_within g c.loop-system.meter c.system-item.result c.loop-system.invariant.charged live.within

pub pairs-requires-clause-others : goal.pairs-requires-clause-others
pairs-requires-clause-others c = λ k d l.
    charged_within c.args.meter.now c.loop-system.meter (get_or c.args.others.now k d) c.loop-system.invariant.charged
    (c.requires.others k d l).within

pub loop-system-preserved : goal.loop-system-preserved
loop-system-preserved c =
    let g = c.args.meter.now in
    let h = c.loop-system.meter in
    let so_far = c.loop-system.invariant in
    record {
      met = met_more g h c.args.names c.args.systems.now c.args.others.now c.loop-system.system-index c.system-item.result
          c.loop-system.all.items c.in_ok-more.more.items c.append.new.systems.items c.loop-system-test.true c.system-item.is
          (charged_bits g h so_far.charged) c.in_ok-append.ensures.items so_far.met c.in_ok-more.ensures.pairs;
      units = counts_more g.units h.units c.pairs.new.meter.units (length c.args.others.now) c.args.systems.now c.loop-system.system-index
          c.loop-system-test.true so_far.units c.in_ok-more.ensures.units;
      charged = IsCharged_trans g h c.pairs.new.meter so_far.charged c.in_ok-more.ensures.meter;
    }

pub returns-clause-units : goal.returns-clause-units
returns-clause-units c =
    let end : length c.args.systems.now ≤ c.loop-system.system-index = omega arith in
    rw (take_all c.loop-system.system-index c.args.systems.now end) at c.loop-system.invariant.units
