use Rattle.std.proofs.Common.{◌≡◌, refl, sym, ap, subst, Some, None}
use Rattle.isl_greatest.specs.Expressed.{AreExpressed}
use Rattle.isl_greatest.specs.Search.{AreEnds}
use Rattle.isl_greatest.specs.State.{IsFrame}
use Rattle.isl_greatest.proofs.SearchLaws.{tree_leaf, tree_missing}
use Rattle.isl_greatest.proofs.search.ended.Goals as goal

pub returns-in-None : goal.returns-in-None
returns-in-None c =
    let g = c.args.meter.now in
    let p = c.args.problem.now in
    let context = c.args.context.now in
    (tree_missing g p context (subst (AreEnds g p context) c.in-None.is c.requires), refl)

pub leaf_of-requires : goal.leaf_of-requires
leaf_of-requires c =
    let g = c.args.meter.now in
    let p = c.args.problem.now in
    let numbers = c.in-Some.numbers in
    let ends : AreEnds g p c.args.context.now (Some numbers) = subst (AreEnds g p c.args.context.now) c.in-Some.is c.requires in
    subst (λ n. IsFrame g n numbers) (sym c.front.ensures) (ends.frame numbers refl).0

pub returns-in_ok-leaf-in-Some : goal.returns-in_ok-leaf-in-Some
returns-in_ok-leaf-in-Some c =
    let g = c.args.meter.now in
    let p = c.args.problem.now in
    let context = c.args.context.now in
    let numbers = c.in-Some.numbers in
    let leaf = c.in_ok-leaf-in-Some.leaf in
    let ends : AreEnds g p context (Some numbers) = subst (AreEnds g p context) c.in-Some.is c.requires in
    let made : AreExpressed g p.front numbers leaf = subst (λ n. AreExpressed g n numbers leaf) c.front.ensures c.in_ok-leaf-in-Some.ensures.0 in
    (tree_leaf g p context numbers leaf ends made, c.in_ok-leaf-in-Some.ensures.1)
