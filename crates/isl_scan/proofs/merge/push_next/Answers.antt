use Rattle.std.proofs.Common.{◌≡◌, ◌+◌, ◌++◌, [], get_or, arith}
use Rattle.std.proofs.lemmas.Grind.{common_steps}
use Rattle.isl_scan.proofs.MergingLaws.{merging_low, merging_more}
use Rattle.isl_scan.proofs.merge.push_next.Goals as goal

pub returns-in_ok-extend_from_slice-in-Less-clause-merging : goal.returns-in_ok-extend_from_slice-in-Less-clause-merging
returns-in_ok-extend_from_slice-in-Less-clause-merging c =
    let fs = c.args.firsts.now in
    let ss = c.args.seconds.now in
    let m = c.args.merging in
    let step = rw c.in-Less.is at c.order_at.ensures in
    let new = c.extend_from_slice.new.self.items in
    let more : new ≡ m.numbers.items ++ get_or fs m.first [] = grind (arith, common_steps) in
    merging_more fs ss m.numbers.items new m.count m.first m.second (m.first + 1) m.second (get_or fs m.first []) c.requires.merging step.1 more

pub overflow_add-result : goal.overflow_add-result
overflow_add-result c =
    let fs = c.args.firsts.now in
    let ss = c.args.seconds.now in
    let m = c.args.merging in
    let step = rw c.in-Less.is at c.order_at.ensures in
    let low = merging_low fs ss m.numbers.items m.count m.first m.second (m.first + 1) m.second (get_or fs m.first []) c.requires.merging step.1 in
    grind (arith, low)

pub returns-in_ok-extend_from_slice-in-Equal-clause-merging : goal.returns-in_ok-extend_from_slice-in-Equal-clause-merging
returns-in_ok-extend_from_slice-in-Equal-clause-merging c =
    let fs = c.args.firsts.now in
    let ss = c.args.seconds.now in
    let m = c.args.merging in
    let step = rw c.in-Equal.is at c.order_at.ensures in
    let new = c.extend_from_slice-in-Equal.new.self.items in
    let more : new ≡ m.numbers.items ++ get_or fs m.first [] = grind (arith, common_steps) in
    merging_more fs ss m.numbers.items new m.count m.first m.second (m.first + 1) (m.second + 1) (get_or fs m.first []) c.requires.merging step.1 more

pub overflow_add-result-in-Equal : goal.overflow_add-result-in-Equal
overflow_add-result-in-Equal c =
    let fs = c.args.firsts.now in
    let ss = c.args.seconds.now in
    let m = c.args.merging in
    let step = rw c.in-Equal.is at c.order_at.ensures in
    let low = merging_low fs ss m.numbers.items m.count m.first m.second (m.first + 1) (m.second + 1) (get_or fs m.first []) c.requires.merging step.1 in
    grind (arith, low)

pub returns-in_ok-extend_from_slice-in-Greater-clause-merging : goal.returns-in_ok-extend_from_slice-in-Greater-clause-merging
returns-in_ok-extend_from_slice-in-Greater-clause-merging c =
    let fs = c.args.firsts.now in
    let ss = c.args.seconds.now in
    let m = c.args.merging in
    let step = rw c.in-Greater.is at c.order_at.ensures in
    let new = c.extend_from_slice-in-Greater.new.self.items in
    let more : new ≡ m.numbers.items ++ get_or ss m.second [] = grind (arith, common_steps) in
    merging_more fs ss m.numbers.items new m.count m.first m.second m.first (m.second + 1) (get_or ss m.second []) c.requires.merging step.1 more

pub overflow_add-result-in-Greater : goal.overflow_add-result-in-Greater
overflow_add-result-in-Greater c =
    let fs = c.args.firsts.now in
    let ss = c.args.seconds.now in
    let m = c.args.merging in
    let step = rw c.in-Greater.is at c.order_at.ensures in
    let low = merging_low fs ss m.numbers.items m.count m.first m.second m.first (m.second + 1) (get_or ss m.second []) c.requires.merging step.1 in
    grind (arith, low)
