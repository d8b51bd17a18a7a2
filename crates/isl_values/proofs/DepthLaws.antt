-- What stands in an expression is smaller.
use mathlib.Core.Former.{Count}
use Rattle.std.proofs.Common.{◌≡◌, ◌∙◌, ◌<◌, ◌+◌, ℕ, zero, suc, List, [], ◌∷◌, length, get_or, refl, ap, arith}
use Rattle.isl_tree.specs.declared.statement.Prefix.{Prefix as Word}
use Rattle.isl_tree.specs.declared.statement.Link.{Link}
use Rattle.isl_tree.specs.declared.statement.Postfix.{Postfix, Apply}
use Rattle.isl_tree.specs.declared.statement.Expr.{Expr, Row, Prefix, Any, Last, Post, Row_of-Link, end_of-Link, more_of-Link}
use Rattle.isl_tree.specs.declared.statement.Expr.{Row_of-Postfix, end_of-Postfix, more_of-Postfix, items-the_row-Link}
use Rattle.isl_tree.specs.declared.statement.Expr.{items-the_row-Postfix}
use Rattle.isl_tree.specs.declared.statement.Expr.{items_hidden-the_row-Link-1, items_hidden-the_row-Postfix-2}
use Rattle.isl_tree.specs.declared.statement.Expr.TheBlock.{hidden-the_row-Expr-0, hidden-the_row-Link-1, hidden-the_row-Postfix-2}
use Rattle.isl_values.specs.Depth.{depth_of, depth_of_postfix, depth_in_links, depth_in_postfixes, depth_of_links, depth_of_postfixes}
use Rattle.isl_values.specs.Depth.{depth_of_three}

-- ---- rows
links_are : (m : Count) (row : Row_of-Link m) → depth_in_links row ≡ depth_of_links (items-the_row-Link m row)
links_are m end_of-Link = refl
links_are m (more_of-Link operator operand row) = ap (λ n. 1 + (depth_of operand + n)) (links_are _ row)

depth_of-Row : (first : Expr) (links : List Link) → depth_of (Row first links) ≡ 1 + (depth_of first + depth_of_links links)
unfolding hidden-the_row-Expr-0 denote.Hole.Carrier.hidden
depth_of-Row first links = ap (λ n. 1 + (depth_of first + n))
    (links_are _ (hidden-the_row-Link-1 links) ∙ ap depth_of_links (items_hidden-the_row-Link-1 links))

module _ (expr first : Expr) (links : List Link) (is : expr ≡ Row first links) where
  row_whole : depth_of expr ≡ 1 + (depth_of first + depth_of_links links)
  row_whole = ap depth_of is ∙ depth_of-Row first links

  pub first_smaller : depth_of first < depth_of expr
  first_smaller = omega (arith, row_whole)

  pub links_smaller : depth_of_links links < depth_of expr
  links_smaller = omega (arith, row_whole)

pub link_smaller : (links : List Link) (i : ℕ) (link : Link) → i < length links → link ≡ get_or links i link
    → depth_of link.operand < depth_of_links links
link_smaller [] i link low is = absurd (omega (arith, low))
link_smaller (other ∷ links) zero link low is =
    let own : depth_of link.operand ≡ depth_of other.operand = ap (λ (l : Link). depth_of l.operand) is in omega (arith, own)
link_smaller (other ∷ links) (suc i) link low is = let rest = link_smaller links i link (omega (arith, low)) is in omega (arith, rest)

-- ---- a word before an operand
depth_of-Prefix : (word : Word) (operand : Expr) → depth_of (Prefix word operand) ≡ 1 + depth_of operand
unfolding hidden-the_row-Expr-0 denote.Hole.Carrier.hidden
depth_of-Prefix word operand = refl

pub argument_smaller : (expr : Expr) (word : Word) (operand : Expr) → expr ≡ Prefix word operand → depth_of operand < depth_of expr
argument_smaller expr word operand is =
    let whole : depth_of expr ≡ 1 + depth_of operand = ap depth_of is ∙ depth_of-Prefix word operand in
    omega (arith, whole)

-- ---- source, sink and schedule
depth_of-Any : (source sink schedule : Expr) → depth_of (Any source sink schedule) ≡ 1 + depth_of_three source sink schedule
unfolding hidden-the_row-Expr-0 denote.Hole.Carrier.hidden
depth_of-Any source sink schedule = refl

depth_of-Last : (source sink schedule : Expr) → depth_of (Last source sink schedule) ≡ 1 + depth_of_three source sink schedule
unfolding hidden-the_row-Expr-0 denote.Hole.Carrier.hidden
depth_of-Last source sink schedule = refl

pub any_smaller : (expr source sink schedule : Expr) → expr ≡ Any source sink schedule
    → depth_of_three source sink schedule < depth_of expr
any_smaller expr source sink schedule is = let whole = ap depth_of is ∙ depth_of-Any source sink schedule in omega (arith, whole)

pub last_smaller : (expr source sink schedule : Expr) → expr ≡ Last source sink schedule
    → depth_of_three source sink schedule < depth_of expr
last_smaller expr source sink schedule is = let whole = ap depth_of is ∙ depth_of-Last source sink schedule in omega (arith, whole)

pub sink_smaller : (source sink schedule : Expr) → depth_of sink < depth_of_three source sink schedule
sink_smaller source sink schedule = omega arith

pub schedule_smaller : (source sink schedule : Expr) → depth_of schedule < depth_of_three source sink schedule
schedule_smaller source sink schedule = omega arith

-- ---- what follows an operand
postfixes_are : (m : Count) (row : Row_of-Postfix m) → depth_in_postfixes row ≡ depth_of_postfixes (items-the_row-Postfix m row)
postfixes_are m end_of-Postfix = refl
postfixes_are m (more_of-Postfix postfix row) = ap (λ n. 1 + (depth_of_postfix postfix + n)) (postfixes_are _ row)

depth_of-Post : (operand : Expr) (postfixes : List Postfix)
    → depth_of (Post operand postfixes) ≡ 1 + (depth_of operand + depth_of_postfixes postfixes)
unfolding hidden-the_row-Expr-0 denote.Hole.Carrier.hidden
depth_of-Post operand postfixes = ap (λ n. 1 + (depth_of operand + n))
    (postfixes_are _ (hidden-the_row-Postfix-2 postfixes) ∙ ap depth_of_postfixes (items_hidden-the_row-Postfix-2 postfixes))

module _ (expr operand : Expr) (postfixes : List Postfix) (is : expr ≡ Post operand postfixes) where
  post_whole : depth_of expr ≡ 1 + (depth_of operand + depth_of_postfixes postfixes)
  post_whole = ap depth_of is ∙ depth_of-Post operand postfixes

  pub operand_smaller : depth_of operand < depth_of expr
  operand_smaller = omega (arith, post_whole)

  pub postfixes_smaller : depth_of_postfixes postfixes < depth_of expr
  postfixes_smaller = omega (arith, post_whole)

pub postfix_smaller : (postfixes : List Postfix) (i : ℕ) (postfix : Postfix) → i < length postfixes → postfix ≡ get_or postfixes i postfix
    → depth_of_postfix postfix < depth_of_postfixes postfixes
postfix_smaller [] i postfix low is = absurd (omega (arith, low))
postfix_smaller (other ∷ postfixes) zero postfix low is =
    let own : depth_of_postfix postfix ≡ depth_of_postfix other = ap depth_of_postfix is in omega (arith, own)
postfix_smaller (other ∷ postfixes) (suc i) postfix low is =
    let rest = postfix_smaller postfixes i postfix (omega (arith, low)) is in omega (arith, rest)

pub applied_smaller : (postfix : Postfix) (argument : Expr) → postfix ≡ Apply argument → depth_of argument < depth_of_postfix postfix
applied_smaller postfix argument is =
    let whole : depth_of_postfix postfix ≡ 1 + depth_of argument = ap depth_of_postfix is in
    omega (arith, whole)
