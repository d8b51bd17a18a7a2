-- The literals of an expression, at the constructors of the code.
use mathlib.Core.Former.{Count}
use Rattle.std.proofs.Common.{◌≡◌, List, ◌++◌, refl, ap, ◌∙◌}
use Rattle.isl_tree.specs.declared.statement.Prefix.{Prefix as Word}
use Rattle.isl_tree.specs.declared.statement.Link.{Link}
use Rattle.isl_tree.specs.declared.statement.Postfix.{Postfix}
use Rattle.isl_tree.specs.declared.statement.Expr.{Expr, Row, Prefix, Any, Last, Post, Row_of-Link, end_of-Link, more_of-Link}
use Rattle.isl_tree.specs.declared.statement.Expr.{Row_of-Postfix}
use Rattle.isl_tree.specs.declared.statement.Expr.{end_of-Postfix, more_of-Postfix, items-the_row-Link, items-the_row-Postfix}
use Rattle.isl_tree.specs.declared.statement.Expr.{items_hidden-the_row-Link-1, items_hidden-the_row-Postfix-2}
use Rattle.isl_tree.specs.declared.statement.Expr.TheBlock.{hidden-the_row-Expr-0, hidden-the_row-Link-1, hidden-the_row-Postfix-2}
use Rattle.isl_tree.specs.Expr.{literals_of, literals_in_links, literals_in_postfixes, literals_in_postfix, links_literals}
use Rattle.isl_tree.specs.Expr.{postfixes_literals}

links_are : (m : Count) (row : Row_of-Link m) → literals_in_links row ≡ links_literals (items-the_row-Link m row)
links_are m end_of-Link = refl
links_are m (more_of-Link operator operand row) = ap (λ ls. literals_of operand ++ ls) (links_are _ row)

postfixes_are : (m : Count) (row : Row_of-Postfix m) → literals_in_postfixes row ≡ postfixes_literals (items-the_row-Postfix m row)
postfixes_are m end_of-Postfix = refl
postfixes_are m (more_of-Postfix postfix row) = ap (λ ls. literals_in_postfix postfix ++ ls) (postfixes_are _ row)

pub literals_of-Prefix : (word : Word) (operand : Expr) → literals_of (Prefix word operand) ≡ literals_of operand
unfolding hidden-the_row-Expr-0 denote.Hole.Carrier.hidden
literals_of-Prefix word operand = refl

pub literals_of-Row : (first : Expr) (links : List Link) → literals_of (Row first links) ≡ literals_of first ++ links_literals links
unfolding hidden-the_row-Expr-0 denote.Hole.Carrier.hidden
literals_of-Row first links = ap (λ ls. literals_of first ++ ls)
    (links_are _ (hidden-the_row-Link-1 links) ∙ ap links_literals (items_hidden-the_row-Link-1 links))

pub literals_of-Post : (operand : Expr) (postfixes : List Postfix)
    → literals_of (Post operand postfixes) ≡ literals_of operand ++ postfixes_literals postfixes
unfolding hidden-the_row-Expr-0 denote.Hole.Carrier.hidden
literals_of-Post operand postfixes = ap (λ ls. literals_of operand ++ ls)
    (postfixes_are _ (hidden-the_row-Postfix-2 postfixes) ∙ ap postfixes_literals (items_hidden-the_row-Postfix-2 postfixes))

pub literals_of-Any : (source sink schedule : Expr) → literals_of (Any source sink schedule) ≡ literals_of source ++
    (literals_of sink ++ literals_of schedule)
unfolding hidden-the_row-Expr-0 denote.Hole.Carrier.hidden
literals_of-Any source sink schedule = refl

pub literals_of-Last : (source sink schedule : Expr) → literals_of (Last source sink schedule) ≡ literals_of source ++
    (literals_of sink ++ literals_of schedule)
unfolding hidden-the_row-Expr-0 denote.Hole.Carrier.hidden
literals_of-Last source sink schedule = refl
