-- What passes a test in an expression, at the constructors of the code.
use mathlib.Core.Former.{Count}
use Rattle.std.proofs.Common.{◌≡◌, ◌∙◌, Bool, false, ◌||◌, List, ◌∷◌, ◌++◌, refl, sym, ap}
use Rattle.std.specs.List.{list_any}
use Rattle.std.proofs.lemmas.List.Folds.{list_any-append}
use Rattle.isl_tree.specs.declared.statement.Prefix.{Prefix as Word}
use Rattle.isl_tree.specs.declared.statement.Link.{Link}
use Rattle.isl_tree.specs.declared.statement.Postfix.{Postfix}
use Rattle.isl_tree.specs.declared.statement.Expr.{Expr, Row, Prefix, Any, Last, Post, Row_of-Link, end_of-Link, more_of-Link}
use Rattle.isl_tree.specs.declared.statement.Expr.{Row_of-Postfix, end_of-Postfix, more_of-Postfix, items-the_row-Link}
use Rattle.isl_tree.specs.declared.statement.Expr.{items-the_row-Postfix}
use Rattle.isl_tree.specs.declared.statement.Expr.{items_hidden-the_row-Link-1, items_hidden-the_row-Postfix-2}
use Rattle.isl_tree.specs.declared.statement.Expr.TheBlock.{hidden-the_row-Expr-0, hidden-the_row-Link-1, hidden-the_row-Postfix-2}
use Rattle.isl_kinds.specs.Parts.{Part, parts_of, parts_in_links, parts_in_postfixes, parts_of_postfix, parts_of_links, parts_of_postfixes}
use Rattle.isl_kinds.specs.Parts as part

-- ---- the parts at the constructors of the code

pub links_are : (m : Count) (row : Row_of-Link m) → parts_in_links row ≡ parts_of_links (items-the_row-Link m row)
links_are m end_of-Link = refl
links_are m (more_of-Link operator operand row) = ap (λ ps. part.operator operator ∷ (parts_of operand ++ ps)) (links_are _ row)

postfixes_are : (m : Count) (row : Row_of-Postfix m) → parts_in_postfixes row ≡ parts_of_postfixes (items-the_row-Postfix m row)
postfixes_are m end_of-Postfix = refl
postfixes_are m (more_of-Postfix postfix row) = ap (λ ps. parts_of_postfix postfix ++ ps) (postfixes_are _ row)

pub parts_of-Prefix : (word : Word) (operand : Expr) → parts_of (Prefix word operand) ≡ part.prefix word ∷ parts_of operand
unfolding hidden-the_row-Expr-0 denote.Hole.Carrier.hidden
parts_of-Prefix word operand = refl

pub parts_of-Row : (first : Expr) (links : List Link) → parts_of (Row first links) ≡ parts_of first ++ parts_of_links links
unfolding hidden-the_row-Expr-0 denote.Hole.Carrier.hidden
parts_of-Row first links = ap (λ ps. parts_of first ++ ps)
    (links_are _ (hidden-the_row-Link-1 links) ∙ ap parts_of_links (items_hidden-the_row-Link-1 links))

pub parts_of-Post : (operand : Expr) (postfixes : List Postfix)
    → parts_of (Post operand postfixes) ≡ parts_of operand ++ parts_of_postfixes postfixes
unfolding hidden-the_row-Expr-0 denote.Hole.Carrier.hidden
parts_of-Post operand postfixes = ap (λ ps. parts_of operand ++ ps)
    (postfixes_are _ (hidden-the_row-Postfix-2 postfixes) ∙ ap parts_of_postfixes (items_hidden-the_row-Postfix-2 postfixes))

pub parts_of-Any : (source sink schedule : Expr) → parts_of (Any source sink schedule) ≡ part.any ∷ (parts_of source ++
    (parts_of sink ++ parts_of schedule))
unfolding hidden-the_row-Expr-0 denote.Hole.Carrier.hidden
parts_of-Any source sink schedule = refl

pub parts_of-Last : (source sink schedule : Expr) → parts_of (Last source sink schedule) ≡ part.last ∷ (parts_of source ++
    (parts_of sink ++ parts_of schedule))
unfolding hidden-the_row-Expr-0 denote.Hole.Carrier.hidden
parts_of-Last source sink schedule = refl

-- ---- what passes a test

-- a part that does not pass changes nothing
passed_by : (t a b : Bool) → t ≡ false → a ≡ b → a ≡ (t || b)
passed_by t a b quiet is = is ∙ sym (ap (λ (s : Bool). s || b) quiet)

-- ---- lists

pub any_in_link : (test : Part → Bool) (link : Link) (links : List Link) → test (part.operator link.operator) ≡ false
    → list_any test (parts_of_links (link ∷ links)) ≡ (list_any test (parts_of link.operand) || list_any test (parts_of_links links))
any_in_link test link links quiet =
    let behind = list_any test (parts_of link.operand ++ parts_of_links links) in
    sym (passed_by (test (part.operator link.operator)) behind behind quiet refl)
    ∙ list_any-append test (parts_of link.operand) (parts_of_links links)
