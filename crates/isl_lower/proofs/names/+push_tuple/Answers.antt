use Rattle.isl_lower.proofs.NameLaws.{pair_pushed}
use Rattle.isl_lower.proofs.names.+push_tuple.Goals as goal

pub returns-in_ok-push_tuple-in-Pair : goal.returns-in_ok-push_tuple-in-Pair
returns-in_ok-push_tuple-in-Pair t c =
    pair_pushed c.args.tuple.now c.in-Pair.left c.in-Pair.right c.get.result.now c.get-in-Pair.result.now c.args.scope.now
    c.push_tuple.new.scope c.push_tuple-in-Pair.new.scope c.push_tuple-in-Pair.result c.in-Pair.is c.get.ensures c.get-in-Pair.ensures
    c.in_ok-push_tuple-in-Pair.ensures c.push_tuple-in-Pair.ensures
