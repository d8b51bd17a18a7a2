use Rattle.std.proofs.Common.{◌≡◌, ◌<◌, ◌≤◌, [], get_or, length, arith}
use Rattle.std.proofs.lemmas.Grind.{common_steps}
use Rattle.isl_scan.specs.Merged.{point_cmp}
use Rattle.isl_scan.proofs.MergingLaws.{next_of, next_of_first, next_of_second}
use Rattle.isl_scan.proofs.merge.order_at.Goals as goal

pub returns-then-first-len : goal.returns-then-first-len
returns-then-first-len c =
    let over : length c.args.firsts.now ≤ c.args.first = grind (arith, common_steps) in
    next_of_second c.args.firsts.now c.args.seconds.now c.args.first c.args.second over c.requires

pub returns-then-second-len : goal.returns-then-second-len
returns-then-second-len c =
    let low : c.args.first < length c.args.firsts.now = grind (arith, common_steps) in
    let over : length c.args.seconds.now ≤ c.args.second = grind (arith, common_steps) in
    next_of_first c.args.firsts.now c.args.seconds.now c.args.first c.args.second low over

pub returns : goal.returns
returns c =
    let fs = c.args.firsts.now in
    let ss = c.args.seconds.now in
    let i = c.args.first in
    let j = c.args.second in
    let low_i : i < length fs = grind (arith, common_steps) in
    let low_j : j < length ss = grind (arith, common_steps) in
    let order : c.cmp.result ≡ point_cmp (get_or fs i []) (get_or ss j []) =
    rw c.get.ensures at (rw c.get-2.ensures at c.cmp.ensures) in
    rw order (next_of fs ss i j low_i low_j)
