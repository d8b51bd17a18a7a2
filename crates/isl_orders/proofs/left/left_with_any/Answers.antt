use Rattle.std.proofs.Common.{◌≡◌, ◌+◌}
use Rattle.isl_meter.proofs.CutLemmas.{IsCharged_trans}
use Rattle.isl_piece.specs.System.{free_columns}
use Rattle.isl_difference.proofs.DifferenceLaws.{system_at, system_within}
use Rattle.isl_difference.proofs.SplitLaws.{charged_within}
use Rattle.isl_orders.proofs.LeftLaws.{left_more}
use Rattle.isl_orders.proofs.left.left_with_any.Goals as goal

pub left_with-requires-clause-within : goal.left_with-requires-clause-within
left_with-requires-clause-within c =
    charged_within c.args.meter.now c.loop-case.meter c.args.system.now c.loop-case.invariant.charged c.requires.within

pub left_with-requires-clause-case_within : goal.left_with-requires-clause-case_within
left_with-requires-clause-case_within c =
    system_within c.args.meter.now c.loop-case.meter c.args.cases.now c.loop-case.case-index c.case-item.result
    c.loop-case.invariant.charged
    c.requires.cases_within c.loop-case-test.true c.case-item.is

pub left_with-requires-clause-case_columns : goal.left_with-requires-clause-case_columns
left_with-requires-clause-case_columns c =
    system_at (λ t. free_columns t ≡ c.args.kept + c.args.count) c.args.cases.now c.loop-case.case-index c.case-item.result
    c.requires.case_columns c.loop-case-test.true c.case-item.is

pub loop-case-preserved : goal.loop-case-preserved
loop-case-preserved c =
    let g = c.args.meter.now in
    let h = c.loop-case.meter in
    let so_far = c.loop-case.invariant in
    record {
      left = left_more g h c.args.system.now c.args.cases.now c.loop-case.case-index c.case-item.result c.args.kept c.args.count
          c.loop-case.left.items c.in_ok-more.more.items c.append.new.systems.items c.loop-case-test.true c.case-item.is so_far.charged
          so_far.left c.in_ok-more.ensures.left c.in_ok-append.ensures.items;
      charged = IsCharged_trans g h c.left_with.new.meter so_far.charged c.in_ok-more.ensures.meter;
    }
