-- Kinds of what is chosen once, and of its operands: each may be bound.
use mathlib.Core.Former.{Count}
use Rattle.std.proofs.Common.{◌≡◌, ◌∙◌, true, List, [], ◌∷◌, ◌++◌, Option, Some, refl, sym, ap}
use Rattle.std.proofs.lemmas.Bool.{false≢true}
use Rattle.isl_tree.specs.declared.statement.ValueKind.{ValueKind}
use Rattle.isl_tree.specs.declared.statement.ValueKind.TheVariants.{Set, Map, Empty}
use Rattle.isl_tree.specs.declared.statement.Binary.{Binary}
use Rattle.isl_tree.specs.declared.statement.Binary.TheVariants.{Gist}
use Rattle.isl_tree.specs.declared.statement.Prefix.{Prefix as Word}
use Rattle.isl_tree.specs.declared.statement.Prefix.TheVariants.{Sample, Coalesce}
use Rattle.isl_tree.specs.declared.statement.Link.{Link}
use Rattle.isl_tree.specs.declared.statement.Postfix.{Postfix}
use Rattle.isl_tree.specs.declared.statement.Expr.{Expr, Row', Prefix'}
use Rattle.isl_tree.specs.declared.statement.Expr.{Row_of-Link, end_of-Link, more_of-Link}
use Rattle.isl_kinds.specs.declared.types.Purpose.TheVariants.{Bound}
use Rattle.isl_kinds.specs.Lines.{joined, prefixed}
use Rattle.isl_kinds.specs.Typed.{ScopeView, kind_of, kind_in, kind_past_links, kind_of_row, kind_of_post, kind_past, by_two, takes}
use Rattle.isl_flat.specs.declared.flattening.Standing.{Standing}
use Rattle.isl_flat.specs.declared.flattening.Standing.TheVariants.{Outermost, Inside}
use Rattle.isl_flat.specs.Flat.{is_gist, is_gist_row, is_gist_alone, is_chosen, whole, names_operand}
use Rattle.isl_flat.proofs.FlatLaws.{is_chosen-Row}
use Rattle.isl_flat_law.proofs.ViewLaws.{no_kind, then_some, two_some}

same_kind : (a b : ValueKind) → Some a ≡ Some b → a ≡ b
same_kind a b is = cc

bindable : (a b : ValueKind) → Some a ≡ Some b → takes Bound a ≡ true → takes Bound b ≡ true
bindable a b is allowed = ap (takes Bound) (sym (same_kind a b is)) ∙ allowed

-- ---- `sample` and `coalesce`

pub sampled : (a k : ValueKind) → prefixed Sample a ≡ Some k → (takes Bound a ≡ true) × (takes Bound k ≡ true)
sampled Set k is = (refl, bindable Set k is refl)
sampled Map k is = (refl, bindable Map k is refl)
sampled Empty k is = (refl, bindable Empty k is refl)
sampled _ k is = no_kind k is

coalesced : (a k : ValueKind) → prefixed Coalesce a ≡ Some k → takes Bound a ≡ true
coalesced Set k is = refl
coalesced Map k is = refl
coalesced Empty k is = refl
coalesced _ k is = no_kind k is

-- the operand of a word that wants a name may be bound
pub named_operand : (standing : Standing) (word : Word) (a k : ValueKind) → names_operand standing word ≡ true → prefixed word a ≡ Some k
    → takes Bound a ≡ true
named_operand standing Sample a k wants is = (sampled a k is).0
named_operand Outermost Coalesce a k wants is = coalesced a k is
named_operand Inside Coalesce a k wants is = absurd (false≢true wants)
named_operand Outermost _ a k wants is = absurd (false≢true wants)
named_operand Inside _ a k wants is = absurd (false≢true wants)

-- ---- `%`

pub gisted : (a b k : ValueKind) → joined Gist a b ≡ Some k → (takes Bound a ≡ true) × (takes Bound b ≡ true) × (takes Bound k ≡ true)
gisted Set Set k is = (refl, refl, bindable Set k is refl)
gisted Set Empty k is = (refl, refl, bindable Set k is refl)
gisted Empty Set k is = (refl, refl, bindable Set k is refl)
gisted Map Map k is = (refl, refl, bindable Map k is refl)
gisted Map Empty k is = (refl, refl, bindable Map k is refl)
gisted Empty Map k is = (refl, refl, bindable Map k is refl)
gisted Empty Empty k is = (refl, refl, bindable Empty k is refl)
gisted _ _ k is = no_kind k is

is_the_gist : (operator : Binary) → is_gist operator ≡ true → operator ≡ Gist
is_the_gist Gist is = refl
is_the_gist _ is = absurd (false≢true is)

gist_past : (operator : Binary) (left right : Option ValueKind) (k : ValueKind) → is_gist operator ≡ true
    → by_two (joined operator) left right ≡ Some k → takes Bound k ≡ true
gist_past operator left right k gist is =
    let both = two_some (joined operator) left right k is in
    (gisted both.0 both.1 k (ap (λ (o : Binary). joined o both.0 both.1) (sym (is_the_gist operator gist)) ∙ both.4)).2

gist_row : (m : Count) (scope : ScopeView) (left : Option ValueKind) (row : Row_of-Link m) (k : ValueKind) → is_gist_row row ≡ true
    → kind_past_links scope left row ≡ Some k → takes Bound k ≡ true
gist_row m scope left (more_of-Link operator operand end_of-Link) k gist is = gist_past operator left (kind_of scope operand) k gist is
gist_row m scope left _ k gist is = absurd (false≢true gist)

-- what is chosen may be bound
pub chosen_bindable : (scope : ScopeView) (expr : Expr) (k : ValueKind) → is_chosen expr ≡ true → kind_of scope expr ≡ Some k
    → takes Bound k ≡ true
chosen_bindable scope (Row' s first t links) k chosen is = gist_row _ scope (kind_in scope first) links k chosen is
chosen_bindable scope (Prefix' Sample s operand) k chosen is =
    let one = then_some (prefixed Sample) (kind_in scope operand) k is in (sampled one.0 k one.2).1
chosen_bindable scope _ k chosen is = absurd (false≢true chosen)

pub alone_is_chosen : (first : Expr) (links : List Link) → is_gist_alone links ≡ true → is_chosen (whole first links) ≡ true
alone_is_chosen first [] alone = absurd (false≢true alone)
alone_is_chosen first (link ∷ links) alone = is_chosen-Row first (link ∷ links) ∙ alone

-- ---- the last of a list

pub kind_with : (scope : ScopeView) (left : Option ValueKind) (links : List Link) (link : Link)
    → kind_of_row scope left (links ++ link ∷ []) ≡
    by_two (joined link.operator) (kind_of_row scope left links) (kind_of scope link.operand)
kind_with scope left [] link = refl
kind_with scope left (other ∷ links) link = kind_with scope (by_two (joined other.operator) left (kind_of scope other.operand)) links link

pub kind_followed : (scope : ScopeView) (left : Option ValueKind) (postfixes : List Postfix) (postfix : Postfix)
    → kind_of_post scope left (postfixes ++ postfix ∷ []) ≡ kind_past scope (kind_of_post scope left postfixes) postfix
kind_followed scope left [] postfix = refl
kind_followed scope left (other ∷ postfixes) postfix = kind_followed scope (kind_past scope left other) postfixes postfix
