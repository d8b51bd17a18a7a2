use Rattle.std.proofs.Common.{rules}
use Rattle.isl_lower.proofs.SizeLaws.{left_smaller, right_smaller}
use Rattle.isl_lower.proofs.SpaceLaws.{left_formed, pair_formed, pair_made, right_formed}
use Rattle.isl_space.specs.Shape.{form_of}
use Rattle.isl_lower.proofs.space.+shape_of.Goals as goal

pub shape_of-requires-in-Pair : goal.shape_of-requires-in-Pair
shape_of-requires-in-Pair t c =
    (search (rules, left_smaller c.args.tuple.now c.in-Pair.left c.in-Pair.right c.get-left.result.now c.in-Pair.is c.get-left.ensures), left_formed c.args.tuple.now c.in-Pair.left c.in-Pair.right c.get-left.result.now c.in-Pair.is c.get-left.ensures c.requires)

pub shape_of-requires-in-Pair-2 : goal.shape_of-requires-in-Pair-2
shape_of-requires-in-Pair-2 t c =
    (search (rules, right_smaller c.args.tuple.now c.in-Pair.left c.in-Pair.right c.get-right.result.now c.in-Pair.is c.get-right.ensures), right_formed c.args.tuple.now c.in-Pair.left c.in-Pair.right c.get-right.result.now c.in-Pair.is c.get-right.ensures c.requires)

pub pair_of-requires : goal.pair_of-requires
pair_of-requires t c =
    pair_formed c.args.tuple.now c.in-Pair.left c.in-Pair.right c.get-left.result.now c.get-right.result.now
    (form_of c.in_ok-first-in-Pair.first.value) (form_of c.in_ok-second-in-Pair.second.value) c.in-Pair.is c.get-left.ensures
    c.get-right.ensures c.in_ok-first-in-Pair.ensures c.in_ok-second-in-Pair.ensures c.requires

pub returns-in_ok-shape-in-Pair : goal.returns-in_ok-shape-in-Pair
returns-in_ok-shape-in-Pair t c =
    pair_made c.args.tuple.now c.in-Pair.left c.in-Pair.right c.get-left.result.now c.get-right.result.now
    (form_of c.in_ok-first-in-Pair.first.value) (form_of c.in_ok-second-in-Pair.second.value) c.in-Pair.is c.get-left.ensures
    c.get-right.ensures c.in_ok-first-in-Pair.ensures c.in_ok-second-in-Pair.ensures (form_of c.in_ok-shape-in-Pair.shape.value)
    c.in_ok-shape-in-Pair.ensures
