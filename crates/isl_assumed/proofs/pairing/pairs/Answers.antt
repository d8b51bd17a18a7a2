use Rattle.std.proofs.Common.{◌≡◌, ◌≤◌, length, arith}
use Rattle.std.proofs.lemmas.List.{take_all}
use Rattle.isl_meter.proofs.CutLemmas.{IsCharged_trans}
use Rattle.isl_piece.specs.System.{free_columns}
use Rattle.isl_difference.proofs.DifferenceLaws.{system_at, system_within}
use Rattle.isl_difference.proofs.SplitLaws.{charged_within}
use Rattle.isl_union.proofs.MeetSteps.{charged_bits}
use Rattle.isl_assumed.proofs.PairLaws.{count_more, pairs_all, pairs_more}
use Rattle.isl_assumed.proofs.pairing.pairs.Goals as goal

pub pair-requires-clause-system : goal.pair-requires-clause-system
pair-requires-clause-system c =
    charged_within c.args.meter.now c.loop-other.meter c.args.system.now c.loop-other.invariant.charged c.requires.system

pub pair-requires-clause-other : goal.pair-requires-clause-other
pair-requires-clause-other c =
    system_within c.args.meter.now c.loop-other.meter c.args.others.now c.loop-other.other-index c.other-item.result
    c.loop-other.invariant.charged c.requires.others c.loop-other-test.true c.other-item.is

pub pair-requires-clause-other_columns : goal.pair-requires-clause-other_columns
pair-requires-clause-other_columns c =
    system_at (λ t. free_columns t ≡ c.args.names) c.args.others.now c.loop-other.other-index c.other-item.result
    c.requires.other_columns c.loop-other-test.true c.other-item.is

pub loop-other-preserved : goal.loop-other-preserved
loop-other-preserved c =
    let g = c.args.meter.now in
    let h = c.loop-other.meter in
    let so_far = c.loop-other.invariant in
    record {
      pairs = pairs_more g h c.args.names c.args.more c.args.system.now c.args.others.now c.loop-other.other-index c.other-item.result
          c.in_ok-both.both c.loop-other.pairs.items c.push.new.self.items c.loop-other-test.true c.other-item.is
          (charged_bits g h so_far.charged) c.in_ok-push.ensures.items so_far.pairs c.in_ok-both.ensures.pair;
      units = count_more g h c.pair.new.meter c.args.others.now c.loop-other.other-index c.loop-other-test.true so_far.units
          c.in_ok-both.ensures.unit;
      charged = IsCharged_trans g h c.pair.new.meter so_far.charged c.in_ok-both.ensures.meter;
    }

pub returns-clause-pairs : goal.returns-clause-pairs
returns-clause-pairs c =
    let end : length c.args.others.now ≤ c.loop-other.other-index = omega arith in
    pairs_all c.args.meter.now c.args.names c.args.more c.args.system.now c.args.others.now c.loop-other.other-index
    c.loop-other.pairs.items end c.loop-other.invariant.pairs

pub returns-clause-units : goal.returns-clause-units
returns-clause-units c =
    let end : length c.args.others.now ≤ c.loop-other.other-index = omega arith in
    rw (take_all c.loop-other.other-index c.args.others.now end) at c.loop-other.invariant.units
