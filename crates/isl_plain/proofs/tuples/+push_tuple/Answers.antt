use Rattle.std.proofs.Common.{◌≡◌, rules}
use Rattle.std.proofs.lemmas.Result.{IfOk-weaker}
use Rattle.isl_tree.specs.declared.tree.Tuple.{Pair}
use Rattle.isl_plain.proofs.TupleLaws.{pushed_pair}
use Rattle.isl_plain.proofs.tuples.+push_tuple.Goals as goal

pub returns-in_default : goal.returns-in_default
returns-in_default t c =
    let is : c.args.tuple.now ≡ Pair c.get.result.now c.get-in-Pair.result.now = search rules in
    IfOk-weaker c.push_tuple-in-Pair.result _ _
    (λ u h. pushed_pair c.args.tuple.now c.get.result.now c.get-in-Pair.result.now _ _ _ is c.in_default.ensures h)
    c.push_tuple-in-Pair.ensures
