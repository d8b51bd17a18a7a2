-- Kinds at the constructors of the code.
use mathlib.Core.Former.{Count}
use Rattle.std.proofs.Common.{◌≡◌, ◌∙◌, List, Option, refl, sym, ap}
use Rattle.std.specs.Option.{option_and_then}
use Rattle.isl_tree.specs.declared.statement.ValueKind.{ValueKind}
use Rattle.isl_tree.specs.declared.statement.ValueKind.TheVariants.{Map, List as Pair}
use Rattle.isl_tree.specs.declared.statement.Prefix.{Prefix as Word}
use Rattle.isl_tree.specs.declared.statement.Link.{Link}
use Rattle.isl_tree.specs.declared.statement.Postfix.{Postfix}
use Rattle.isl_tree.specs.declared.statement.Expr.{Expr, Row, Prefix, Any, Last, Post, Row_of-Link, end_of-Link, more_of-Link}
use Rattle.isl_tree.specs.declared.statement.Expr.{Row_of-Postfix, end_of-Postfix, more_of-Postfix, items-the_row-Link}
use Rattle.isl_tree.specs.declared.statement.Expr.{items-the_row-Postfix}
use Rattle.isl_tree.specs.declared.statement.Expr.{items_hidden-the_row-Link-1, items_hidden-the_row-Postfix-2}
use Rattle.isl_tree.specs.declared.statement.Expr.TheBlock.{hidden-the_row-Expr-0, hidden-the_row-Link-1, hidden-the_row-Postfix-2}
use Rattle.isl_kinds.specs.Lines.{joined, prefixed}
use Rattle.isl_kinds.specs.Typed.{ScopeView, kind_of, kind_past_links, kind_past_postfixes, kind_past, kind_of_row, kind_of_post, by_two}
use Rattle.isl_kinds.specs.Typed.{by_three}

-- ---- at the constructors of the code

links_are : (m : Count) (scope : ScopeView) (left : Option ValueKind) (row : Row_of-Link m)
    → kind_past_links scope left row ≡ kind_of_row scope left (items-the_row-Link m row)
links_are m scope left end_of-Link = refl
links_are m scope left (more_of-Link operator operand row) = links_are _ scope (by_two (joined operator) left (kind_of scope operand)) row

postfixes_are : (m : Count) (scope : ScopeView) (left : Option ValueKind) (row : Row_of-Postfix m)
    → kind_past_postfixes scope left row ≡ kind_of_post scope left (items-the_row-Postfix m row)
postfixes_are m scope left end_of-Postfix = refl
postfixes_are m scope left (more_of-Postfix postfix row) = postfixes_are _ scope (kind_past scope left postfix) row

pub kind_of-Prefix : (scope : ScopeView) (word : Word) (operand : Expr)
    → kind_of scope (Prefix word operand) ≡ option_and_then (prefixed word) (kind_of scope operand)
unfolding hidden-the_row-Expr-0 denote.Hole.Carrier.hidden
kind_of-Prefix scope word operand = refl

pub kind_of-Row : (scope : ScopeView) (first : Expr) (links : List Link)
    → kind_of scope (Row first links) ≡ kind_of_row scope (kind_of scope first) links
unfolding hidden-the_row-Expr-0 denote.Hole.Carrier.hidden
kind_of-Row scope first links =
    links_are _ scope (kind_of scope first) (hidden-the_row-Link-1 links)
    ∙ ap (kind_of_row scope (kind_of scope first)) (items_hidden-the_row-Link-1 links)

pub kind_of-Post : (scope : ScopeView) (operand : Expr) (postfixes : List Postfix)
    → kind_of scope (Post operand postfixes) ≡ kind_of_post scope (kind_of scope operand) postfixes
unfolding hidden-the_row-Expr-0 denote.Hole.Carrier.hidden
kind_of-Post scope operand postfixes =
    postfixes_are _ scope (kind_of scope operand) (hidden-the_row-Postfix-2 postfixes)
    ∙ ap (kind_of_post scope (kind_of scope operand)) (items_hidden-the_row-Postfix-2 postfixes)

pub kind_of-Any : (scope : ScopeView) (source sink schedule : Expr)
    → kind_of scope (Any source sink schedule) ≡ by_three Map (kind_of scope source) (kind_of scope sink) (kind_of scope schedule)
unfolding hidden-the_row-Expr-0 denote.Hole.Carrier.hidden
kind_of-Any scope source sink schedule = refl

pub kind_of-Last : (scope : ScopeView) (source sink schedule : Expr)
    → kind_of scope (Last source sink schedule) ≡ by_three Pair (kind_of scope source) (kind_of scope sink) (kind_of scope schedule)
unfolding hidden-the_row-Expr-0 denote.Hole.Carrier.hidden
kind_of-Last scope source sink schedule = refl

-- ---- what is made of the kinds of operands

pub at-Prefix : (scope : ScopeView) (x operand : Expr) (word : Word) (a r : Option ValueKind) → x ≡ Prefix word operand
    → a ≡ kind_of scope operand → r ≡ option_and_then (prefixed word) a → r ≡ kind_of scope x
at-Prefix scope x operand word a r is inner made =
    made ∙ ap (option_and_then (prefixed word)) inner ∙ sym (ap (kind_of scope) is ∙ kind_of-Prefix scope word operand)

pub at-Row : (scope : ScopeView) (x first : Expr) (links : List Link) (a r : Option ValueKind) → x ≡ Row first links
    → a ≡ kind_of scope first → r ≡ kind_of_row scope a links → r ≡ kind_of scope x
at-Row scope x first links a r is left made =
    made ∙ ap (λ o. kind_of_row scope o links) left ∙ sym (ap (kind_of scope) is ∙ kind_of-Row scope first links)

pub at-Post : (scope : ScopeView) (x operand : Expr) (postfixes : List Postfix) (a r : Option ValueKind) → x ≡ Post operand postfixes
    → a ≡ kind_of scope operand → r ≡ kind_of_post scope a postfixes → r ≡ kind_of scope x
at-Post scope x operand postfixes a r is left made =
    made ∙ ap (λ o. kind_of_post scope o postfixes) left ∙ sym (ap (kind_of scope) is ∙ kind_of-Post scope operand postfixes)

pub at-Any : (scope : ScopeView) (x source sink schedule : Expr) (a b c r : Option ValueKind) → x ≡ Any source sink schedule
    → a ≡ kind_of scope source → b ≡ kind_of scope sink → c ≡ kind_of scope schedule → r ≡ by_three Map a b c → r ≡ kind_of scope x
at-Any scope x source sink schedule a b c r is first second third made =
    made
    ∙ ap (λ o. by_three Map o b c) first
    ∙ ap (λ o. by_three Map (kind_of scope source) o c) second
    ∙ ap (by_three Map (kind_of scope source) (kind_of scope sink)) third
    ∙ sym (ap (kind_of scope) is ∙ kind_of-Any scope source sink schedule)

pub at-Last : (scope : ScopeView) (x source sink schedule : Expr) (a b c r : Option ValueKind) → x ≡ Last source sink schedule
    → a ≡ kind_of scope source → b ≡ kind_of scope sink → c ≡ kind_of scope schedule → r ≡ by_three Pair a b c → r ≡ kind_of scope x
at-Last scope x source sink schedule a b c r is first second third made =
    made
    ∙ ap (λ o. by_three Pair o b c) first
    ∙ ap (λ o. by_three Pair (kind_of scope source) o c) second
    ∙ ap (by_three Pair (kind_of scope source) (kind_of scope sink)) third
    ∙ sym (ap (kind_of scope) is ∙ kind_of-Last scope source sink schedule)
