use Rattle.std.proofs.Common.{◌≡◌, ◌∙◌, ◌+◌, ◌<◌, sym, ap, subst, arith, ℕ}
use Rattle.isl_quast.specs.declared.tree.Quast.{Quast, If}
use Rattle.isl_quast.specs.Tree.{quast_at, HasWidth, IsQuastOver}
use Rattle.isl_quast.proofs.TreeLaws.{down_smaller, up_smaller, If-width}
use Rattle.isl_pip.proofs.WithoutLaws.{leaf_at, leaf_inside, leaf_over, leaf_width, parts_wide, test_at, test_over}
use Rattle.isl_pip.proofs.without.+without.Goals as goal

pub remove-gone-requires : goal.remove-gone-requires
remove-gone-requires t c = leaf_inside c.args.tree c.in-Leaf.exprs c.args.width c.args.place c.in-Leaf.is c.requires.inside c.requires.leaves

pub returns-in-Leaf-clause-gives : goal.returns-in-Leaf-clause-gives
returns-in-Leaf-clause-gives t c numbers =
    leaf_at c.args.tree c.in-Leaf.exprs c.remove-gone.new.self c.args.place c.in-Leaf.is c.remove-gone.ensures.rest numbers

pub returns-in-Leaf-clause-over : goal.returns-in-Leaf-clause-over
returns-in-Leaf-clause-over t c g n over =
    leaf_over c.args.tree c.in-Leaf.exprs c.remove-gone.new.self c.args.place c.in-Leaf.is c.remove-gone.ensures.rest g n over

pub returns-in-Leaf-clause-leaves : goal.returns-in-Leaf-clause-leaves
returns-in-Leaf-clause-leaves t c =
    leaf_width c.args.tree c.in-Leaf.exprs c.remove-gone.new.self c.args.place c.in-Leaf.is c.remove-gone.ensures.rest c.args.width c.requires.inside
    c.requires.leaves

pub without-requires : goal.without-requires
without-requires t c =
    let tree = c.args.tree in
    let test = c.in-If.test in
    let above = c.into_inner-above.result in
    let below = c.into_inner-below.result in
    let is : tree ≡ If test above below =
    c.in-If.is ∙ ap (λ (q : Quast). If test q c.in-If.no) (sym c.into_inner-above.ensures) ∙ ap (λ (q : Quast). If test above q) (sym c.into_inner-below.ensures) in
    let wide = parts_wide tree test above below (c.args.width + 1) is c.requires.leaves in
    ((let falls = up_smaller tree test above below is in omega (arith, c.decreases, falls)), (c.requires.inside, wide.0))

pub without-requires-in-If : goal.without-requires-in-If
without-requires-in-If t c =
    let tree = c.args.tree in
    let test = c.in-If.test in
    let above = c.into_inner-above.result in
    let below = c.into_inner-below.result in
    let is : tree ≡ If test above below =
    c.in-If.is ∙ ap (λ (q : Quast). If test q c.in-If.no) (sym c.into_inner-above.ensures) ∙ ap (λ (q : Quast). If test above q) (sym c.into_inner-below.ensures) in
    let wide = parts_wide tree test above below (c.args.width + 1) is c.requires.leaves in
    ((let falls = down_smaller tree test above below is in omega (arith, c.decreases, falls)), (c.requires.inside, wide.1))

pub returns-in_ok-second-in-If-clause-gives : goal.returns-in_ok-second-in-If-clause-gives
returns-in_ok-second-in-If-clause-gives t c numbers =
    let tree = c.args.tree in
    let test = c.in-If.test in
    let above = c.into_inner-above.result in
    let below = c.into_inner-below.result in
    let is : tree ≡ If test above below =
    c.in-If.is ∙ ap (λ (q : Quast). If test q c.in-If.no) (sym c.into_inner-above.ensures) ∙ ap (λ (q : Quast). If test above q) (sym c.into_inner-below.ensures) in
    let up = c.in_ok-up-in-If.up in
    let down = c.in_ok-down-in-If.down in
    let made : If test c.in_ok-first-in-If.first c.in_ok-second-in-If.second ≡ If test up down =
    ap (λ (q : Quast). If test q c.in_ok-second-in-If.second) c.in_ok-first-in-If.ensures ∙ ap (λ (q : Quast). If test up q) c.in_ok-second-in-If.ensures in
    ap (λ (q : Quast). quast_at q numbers) made
    ∙ test_at test above below up down c.args.place tree numbers is (c.in_ok-up-in-If.ensures.gives numbers) (c.in_ok-down-in-If.ensures.gives numbers)

pub returns-in_ok-second-in-If-clause-over : goal.returns-in_ok-second-in-If-clause-over
returns-in_ok-second-in-If-clause-over t c g n over =
    let tree = c.args.tree in
    let test = c.in-If.test in
    let above = c.into_inner-above.result in
    let below = c.into_inner-below.result in
    let is : tree ≡ If test above below =
    c.in-If.is ∙ ap (λ (q : Quast). If test q c.in-If.no) (sym c.into_inner-above.ensures) ∙ ap (λ (q : Quast). If test above q) (sym c.into_inner-below.ensures) in
    let up = c.in_ok-up-in-If.up in
    let down = c.in_ok-down-in-If.down in
    let made : If test c.in_ok-first-in-If.first c.in_ok-second-in-If.second ≡ If test up down =
    ap (λ (q : Quast). If test q c.in_ok-second-in-If.second) c.in_ok-first-in-If.ensures ∙ ap (λ (q : Quast). If test up q) c.in_ok-second-in-If.ensures in
    subst (IsQuastOver g n) (sym made)
    (test_over test above below up down c.args.place tree g n is (c.in_ok-up-in-If.ensures.over g n) (c.in_ok-down-in-If.ensures.over g n) over)

pub returns-in_ok-second-in-If-clause-leaves : goal.returns-in_ok-second-in-If-clause-leaves
returns-in_ok-second-in-If-clause-leaves t c =
    let tree = c.args.tree in
    let test = c.in-If.test in
    let above = c.into_inner-above.result in
    let below = c.into_inner-below.result in
    let is : tree ≡ If test above below =
    c.in-If.is ∙ ap (λ (q : Quast). If test q c.in-If.no) (sym c.into_inner-above.ensures) ∙ ap (λ (q : Quast). If test above q) (sym c.into_inner-below.ensures) in
    let up = c.in_ok-up-in-If.up in
    let down = c.in_ok-down-in-If.down in
    let made : If test c.in_ok-first-in-If.first c.in_ok-second-in-If.second ≡ If test up down =
    ap (λ (q : Quast). If test q c.in_ok-second-in-If.second) c.in_ok-first-in-If.ensures ∙ ap (λ (q : Quast). If test up q) c.in_ok-second-in-If.ensures in
    subst (HasWidth c.args.width) (sym made) (If-width c.args.width test up down c.in_ok-up-in-If.ensures.leaves c.in_ok-down-in-If.ensures.leaves)
