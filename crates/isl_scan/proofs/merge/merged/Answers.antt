use Rattle.std.proofs.Common.{◌≤◌, ◌∙◌, length, arith}
use Rattle.std.proofs.lemmas.Grind.{common_steps}
use Rattle.isl_scan.proofs.MergingLaws.{merging_done, merging_start}
use Rattle.isl_scan.proofs.merge.merged.Goals as goal

pub loop-merging-init : goal.loop-merging-init
loop-merging-init c = merging_start c.args.firsts.now c.args.seconds.now c.new.result.items (grind (arith, common_steps))

pub of-requires : goal.of-requires
of-requires c =
    let m = c.loop-merging.merging in
    let over_i : length c.args.firsts.now ≤ m.first = grind (arith, common_steps) in
    let over_j : length c.args.seconds.now ≤ m.second = grind (arith, common_steps) in
    (merging_done c.args.firsts.now c.args.seconds.now m.numbers.items m.count m.first m.second c.args.width c.loop-merging.invariant
    c.requires.firsts c.requires.seconds over_i over_j).1

pub returns : goal.returns
returns c =
    let m = c.loop-merging.merging in
    let over_i : length c.args.firsts.now ≤ m.first = grind (arith, common_steps) in
    let over_j : length c.args.seconds.now ≤ m.second = grind (arith, common_steps) in
    c.of.ensures
    ∙ (merging_done c.args.firsts.now c.args.seconds.now m.numbers.items m.count m.first m.second c.args.width c.loop-merging.invariant
    c.requires.firsts c.requires.seconds over_i over_j).0
