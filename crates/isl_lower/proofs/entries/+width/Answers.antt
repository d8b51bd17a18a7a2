use Rattle.std.proofs.Common.{arith, rules}
use Rattle.isl_lower.proofs.SizeLaws.{left_smaller, right_smaller}
use Rattle.isl_lower.proofs.EntryLaws.{width-Pair, width-fits, width-left, width-right}
use Rattle.isl_lower.proofs.entries.+width.Goals as goal

pub width-requires : goal.width-requires
width-requires t c =
    (search (rules, left_smaller c.args.tuple.now c.in-Pair.left c.in-Pair.right c.get-left.result.now c.in-Pair.is c.get-left.ensures), width-left c.args.tuple.now c.in-Pair.left c.in-Pair.right c.get-left.result.now c.in-Pair.is c.get-left.ensures c.requires)

pub width-requires-in-Pair : goal.width-requires-in-Pair
width-requires-in-Pair t c =
    (search (rules, right_smaller c.args.tuple.now c.in-Pair.left c.in-Pair.right c.get-right.result.now c.in-Pair.is c.get-right.ensures), width-right c.args.tuple.now c.in-Pair.left c.in-Pair.right c.get-right.result.now c.in-Pair.is c.get-right.ensures c.requires)

pub overflow_add-result : goal.overflow_add-result
overflow_add-result t c =
    let fits = width-fits c.args.tuple.now c.in-Pair.left c.in-Pair.right c.get-left.result.now c.get-right.result.now c.width.result
    c.width-in-Pair.result c.in-Pair.is c.get-left.ensures c.get-right.ensures c.width.ensures c.width-in-Pair.ensures c.requires in
    omega (arith, fits)

pub returns-in-Pair : goal.returns-in-Pair
returns-in-Pair t c =
    width-Pair c.args.tuple.now c.in-Pair.left c.in-Pair.right c.get-left.result.now c.get-right.result.now c.width.result
    c.width-in-Pair.result c.in-Pair.is c.get-left.ensures c.get-right.ensures c.width.ensures c.width-in-Pair.ensures
