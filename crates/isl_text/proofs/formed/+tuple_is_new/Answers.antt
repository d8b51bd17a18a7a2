use Rattle.std.proofs.Common.{◌++◌}
use Rattle.isl_text.proofs.Along.{pair_goes_on}
use Rattle.isl_text.proofs.formed.+tuple_is_new.Goals as goal

pub returns-else-not-branch : goal.returns-else-not-branch
returns-else-not-branch t c =
    let known = c.args.params.now.keys in
    pair_goes_on c.args.tuple.now c.in-Pair.first c.in-Pair.second c.in-Pair.is (known ++ c.args.own.now.keys)
    (known ++ c.tuple_is_new.new.own.keys) _
    c.in_ok-tuple_is_new-in-Pair.field-0 c.get.result.now c.get-in-Pair.result.now c.tuple_is_new-in-Pair.result c.if-not-branch.false
    c.get.ensures
    c.get-in-Pair.ensures c.in_ok-tuple_is_new-in-Pair.ensures c.tuple_is_new-in-Pair.ensures
