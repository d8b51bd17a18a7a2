-- The lines of tests, part after part.
use Rattle.std.proofs.Common.{◌≡◌, ◌∙◌, ◌++◌, ◌∷◌, [], List, refl, sym, ap}
use Rattle.std.specs.Prelude.{codes}
use Rattle.std.proofs.lemmas.List.{append_assoc}
use Rattle.isl_space.specs.Name.{Name}
use Rattle.isl_loop.specs.declared.tree.Expr.{Expr}
use Rattle.isl_row_text.specs.Joined.{Text}
use Rattle.isl_quast.specs.declared.tree.Quast.{Quast, If}
use Rattle.isl_quast.specs.declared.tree.Quast.TheBlock.{hidden-the_row-Quast-0}
use Rattle.isl_quast.specs.ForestText.{line, test_text, tree_lines}

lines_of-If : (names : List Name) (margin : Text) (test : Expr) (up down : Quast)
    → tree_lines names margin (If test up down)
    ≡ line margin (test_text names test) ++ tree_lines names (margin ++ codes "  ") up
    ++ line margin (codes "} else {") ++ tree_lines names (margin ++ codes "  ") down ++ line margin (codes "}")
unfolding hidden-the_row-Quast-0 denote.Hole.Carrier.hidden
lines_of-If names margin test up down = refl

pub if_written : (names : List Name) (margin : Text) (test : Expr) (up down : Quast) (old tested first between second new : Text)
    → tested ≡ old ++ line margin (test_text names test) → first ≡ tested ++ tree_lines names (margin ++ codes "  ") up
    → between ≡ first ++ line margin (codes "} else {") → second ≡ between ++ tree_lines names (margin ++ codes "  ") down
    → new ≡ second ++ line margin (codes "}") → new ≡ old ++ tree_lines names margin (If test up down)
if_written names margin test up down old tested first between second new a b c d e =
    let t = line margin (test_text names test) in
    let u = tree_lines names (margin ++ codes "  ") up in
    let m = line margin (codes "} else {") in
    let w = tree_lines names (margin ++ codes "  ") down in
    let z = line margin (codes "}") in
    e ∙ ap (λ s. s ++ z) (d ∙ ap (λ s. s ++ w) (c ∙ ap (λ s. s ++ m) (b ∙ ap (λ s. s ++ u) a)))
    ∙ regroup old t u m w z ∙ ap (λ s. old ++ s) (sym (lines_of-If names margin test up down))
  where
    regroup : (old t u m w z : Text) → ((((old ++ t) ++ u) ++ m) ++ w) ++ z ≡ old ++ (t ++ u ++ m ++ w ++ z)
    regroup old t u m w z = simp append_assoc
