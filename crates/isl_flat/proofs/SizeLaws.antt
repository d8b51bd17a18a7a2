-- Sizes at the constructors of the code.
use mathlib.Core.Former.{Count}
use Rattle.std.proofs.Common.{◌≡◌, ◌∙◌, ℕ, ◌+◌, List, [], ◌∷◌, ◌++◌, reverse, refl, ap, arith}
use Rattle.std.proofs.lemmas.List.{reverse-append}
use Rattle.isl_tree.specs.declared.statement.Prefix.{Prefix as Word}
use Rattle.isl_tree.specs.declared.statement.Link.{Link}
use Rattle.isl_tree.specs.declared.statement.Postfix.{Postfix}
use Rattle.isl_tree.specs.declared.statement.Expr.{Expr, Row, Prefix, Any, Last, Post, Row_of-Link, end_of-Link, more_of-Link}
use Rattle.isl_tree.specs.declared.statement.Expr.{Row_of-Postfix, end_of-Postfix, more_of-Postfix, items-the_row-Link}
use Rattle.isl_tree.specs.declared.statement.Expr.{items-the_row-Postfix}
use Rattle.isl_tree.specs.declared.statement.Expr.{items_hidden-the_row-Link-1, items_hidden-the_row-Postfix-2}
use Rattle.isl_tree.specs.declared.statement.Expr.TheBlock.{hidden-the_row-Expr-0, hidden-the_row-Link-1, hidden-the_row-Postfix-2}
use Rattle.isl_flat.specs.Size.{size_of, size_in_links, size_in_postfixes, size_of_postfix, size_of_links, size_of_postfixes}

links_are : (m : Count) (row : Row_of-Link m) → size_in_links row ≡ size_of_links (items-the_row-Link m row)
links_are m end_of-Link = refl
links_are m (more_of-Link operator operand row) = ap (λ n. (1 + size_of operand) + n) (links_are _ row)

postfixes_are : (m : Count) (row : Row_of-Postfix m) → size_in_postfixes row ≡ size_of_postfixes (items-the_row-Postfix m row)
postfixes_are m end_of-Postfix = refl
postfixes_are m (more_of-Postfix postfix row) = ap (λ n. size_of_postfix postfix + n) (postfixes_are _ row)

pub size_of-Prefix : (word : Word) (operand : Expr) → size_of (Prefix word operand) ≡ 2 + size_of operand
unfolding hidden-the_row-Expr-0 denote.Hole.Carrier.hidden
size_of-Prefix word operand = refl

pub size_of-Row : (first : Expr) (links : List Link) → size_of (Row first links) ≡ 2 + (size_of first + size_of_links links)
unfolding hidden-the_row-Expr-0 denote.Hole.Carrier.hidden
size_of-Row first links = ap (λ n. 2 + (size_of first + n))
    (links_are _ (hidden-the_row-Link-1 links) ∙ ap size_of_links (items_hidden-the_row-Link-1 links))

pub size_of-Post : (operand : Expr) (postfixes : List Postfix)
    → size_of (Post operand postfixes) ≡ 2 + (size_of operand + size_of_postfixes postfixes)
unfolding hidden-the_row-Expr-0 denote.Hole.Carrier.hidden
size_of-Post operand postfixes = ap (λ n. 2 + (size_of operand + n))
    (postfixes_are _ (hidden-the_row-Postfix-2 postfixes) ∙ ap size_of_postfixes (items_hidden-the_row-Postfix-2 postfixes))

pub size_of-Any : (source sink schedule : Expr)
    → size_of (Any source sink schedule) ≡ 2 + (size_of source + (size_of sink + size_of schedule))
unfolding hidden-the_row-Expr-0 denote.Hole.Carrier.hidden
size_of-Any source sink schedule = refl

pub size_of-Last : (source sink schedule : Expr)
    → size_of (Last source sink schedule) ≡ 2 + (size_of source + (size_of sink + size_of schedule))
unfolding hidden-the_row-Expr-0 denote.Hole.Carrier.hidden
size_of-Last source sink schedule = refl

-- ---- the last of a list

pub links_with : (links : List Link) (link : Link) → size_of_links (links ++ link ∷ []) ≡ size_of_links links + (1 + size_of link.operand)
links_with [] link = omega arith
links_with (first ∷ links) link = let rest = links_with links link in omega (arith, rest)

pub postfixes_with : (postfixes : List Postfix) (postfix : Postfix)
    → size_of_postfixes (postfixes ++ postfix ∷ []) ≡ size_of_postfixes postfixes + size_of_postfix postfix
postfixes_with [] postfix = omega arith
postfixes_with (first ∷ postfixes) postfix = let rest = postfixes_with postfixes postfix in omega (arith, rest)

swapped : (m n : ℕ) → m + n ≡ n + m
swapped m n = omega arith

pub links_reversed : (links : List Link) → size_of_links (reverse links) ≡ size_of_links links
links_reversed [] = refl
links_reversed (link ∷ links) =
    ap size_of_links (reverse-append (link ∷ []) links) ∙ links_with (reverse links) link
    ∙ ap (λ n. n + (1 + size_of link.operand)) (links_reversed links)
    ∙ swapped (size_of_links links) (1 + size_of link.operand)

pub postfixes_reversed : (postfixes : List Postfix) → size_of_postfixes (reverse postfixes) ≡ size_of_postfixes postfixes
postfixes_reversed [] = refl
postfixes_reversed (postfix ∷ postfixes) =
    ap size_of_postfixes (reverse-append (postfix ∷ []) postfixes) ∙ postfixes_with (reverse postfixes) postfix
    ∙ ap (λ n. n + size_of_postfix postfix) (postfixes_reversed postfixes)
    ∙ swapped (size_of_postfixes postfixes) (size_of_postfix postfix)

pub ruleset sizes =
    (links_reversed, postfixes_reversed, size_of-Prefix, size_of-Row, size_of-Post, size_of-Any, size_of-Last, links_with, postfixes_with)
