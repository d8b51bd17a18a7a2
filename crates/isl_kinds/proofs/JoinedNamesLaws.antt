-- Joined lists of names: no name stands in one twice, and each of two lists is no longer than both joined.
use mathlib.Core.Former.{Count}
use Rattle.std.proofs.Common.{◌≡◌, ◌≢◌, ◌∙◌, ◌≤◌, suc, Bool, true, false, List, [], ◌∷◌, ◌++◌, All, length, append_assoc, refl, sym, ap}
use Rattle.std.proofs.Common.{ap₂}
use Rattle.std.proofs.Common.{subst, arith}
use Rattle.std.specs.Prelude.{if◌then◌else◌, not, ◌||◌, filter}
use Rattle.std.specs.Cmp.Lexicographic.{nat_list_eq_equiv}
use Rattle.std.specs.Str.{bytes_eq}
use Rattle.std.proofs.Math.Bool.{or-false}
use Rattle.std.proofs.lemmas.Bool.{false≢true, false_from_ne_true}
use Rattle.std.proofs.lemmas.List.{append-nil, length-append}
use Rattle.std.proofs.lemmas.List.Elements.{All-head, All-tail}
use Rattle.std.proofs.lemmas.List.Folds.{list_any_at, list_any-append}
use Rattle.std.proofs.lemmas.List.Quantifiers.{all_pairs_push}
use Rattle.std.proofs.lemmas.Map.Made.{length-le_from_is_member, IsDistinct-from_AllPairs}
use Rattle.std.proofs.lemmas.Slice.Eq.{bytes_eq-Decides}
use Rattle.indexmap.specs.IndexSet.{insert_key}
use Rattle.isl_space.specs.Name.{Name}
use Rattle.isl_space.specs.Names.{AreDistinct, is_among, joined}
use Rattle.isl_tree.specs.declared.statement.Link.{Link}
use Rattle.isl_tree.specs.declared.statement.Postfix.{Postfix, Inverse, Apply, Item}
use Rattle.isl_tree.specs.declared.statement.Expr.{Expr, Row_of-Link, end_of-Link, more_of-Link, Row_of-Postfix, end_of-Postfix}
use Rattle.isl_tree.specs.declared.statement.Expr.{more_of-Postfix}
use Rattle.isl_kinds.specs.Typed.{ScopeView, declared_of, declared_past_links, declared_past_postfixes, declared_past, joined_names}
use Rattle.isl_kinds.specs.Typed.{declared_of_row, declared_of_post}
use Rattle.isl_kinds.proofs.DeclaredLaws.{once, other_is_there}

-- ---- distinct names

added_distinct : (names : List Name) (n : Name) → AreDistinct names → AreDistinct (insert_key bytes_eq names n)
added_distinct names n distinct = by (is_among names n) refl
  where
    by : (b : Bool) → is_among names n ≡ b → AreDistinct (if b then names else names ++ n ∷ [])
    by true is = distinct
    by false is =
        all_pairs_push (λ a b. a ≢ b) names n distinct
        (λ k d within same.
        false≢true (sym is ∙ list_any_at (bytes_eq n) names k d within ((bytes_eq-Decides n _).1 (sym same))))

all_distinct : (names others : List Name) → AreDistinct names → AreDistinct (joined_names names others)
all_distinct names [] distinct = distinct
all_distinct names (n ∷ others) distinct = all_distinct (insert_key bytes_eq names n) others (added_distinct names n distinct)

none_distinct : AreDistinct []
none_distinct = λ i j d low high. absurd (omega (arith, low, high))

pub declared_distinct : (scope : ScopeView) (expr : Expr) → AreDistinct (declared_of scope expr)
declared_distinct scope expr = subst AreDistinct (once scope expr) (all_distinct [] (declared_of scope expr) none_distinct)

-- ---- both ways to join lists of distinct names

-- a name behind others changes nothing for names that differ from it
same_filter : (names others : List Name) (n : Name) → All (λ m. n ≢ m) others
    → filter (λ m. not (is_among (names ++ n ∷ []) m)) others ≡ filter (λ m. not (is_among names m)) others
same_filter names [] n differs = refl
same_filter names (m ∷ others) n differs =
    ap₂ (λ (b : Bool) (rest : List Name). if not b then m ∷ rest else rest) here
    (same_filter names others n (All-tail (λ k. n ≢ k) m others differs))
  where
    other : bytes_eq m n ≡ false
    other = false_from_ne_true _ (λ same. All-head (λ k. n ≢ k) m others differs (sym ((bytes_eq-Decides m n).0 same)))

    here : is_among (names ++ n ∷ []) m ≡ is_among names m
    here =
        list_any-append (bytes_eq m) names (n ∷ []) ∙ ap (λ (b : Bool). is_among names m || (b || false)) other
        ∙ or-false (is_among names m)

pub joined_is : (names others : List Name) → AreDistinct others → joined names others ≡ joined_names names others
joined_is names [] distinct = append-nil names
joined_is names (n ∷ others) distinct = by (is_among names n) (λ more. joined_is more others behind)
  where
    fresh : List Name
    fresh = filter (λ m. not (is_among names m)) others

    behind : AreDistinct others
    behind = λ i j d low high. distinct (suc i) (suc j) d (omega (arith, low)) (omega (arith, high))

    differs : All (λ m. n ≢ m) others
    differs = λ i d within. distinct 0 (suc i) d (omega arith) (omega (arith, within))

    by : (b : Bool) → ((more : List Name) → joined more others ≡ joined_names more others)
        → names ++ (if not b then n ∷ fresh else fresh) ≡ joined_names (if b then names else names ++ n ∷ []) others
    by true rest = rest names
    by false rest =
        sym (append_assoc names (n ∷ []) fresh) ∙ ap (λ l. (names ++ n ∷ []) ++ l) (sym (same_filter names others n differs))
        ∙ rest (names ++ n ∷ [])

-- ---- the last of a list

pub declared_with : (scope : ScopeView) (left : List Name) (links : List Link) (link : Link)
    → declared_of_row scope left (links ++ link ∷ []) ≡ joined_names (declared_of_row scope left links) (declared_of scope link.operand)
declared_with scope left [] link = refl
declared_with scope left (other ∷ links) link = declared_with scope (joined_names left (declared_of scope other.operand)) links link

pub declared_followed : (scope : ScopeView) (left : List Name) (postfixes : List Postfix) (postfix : Postfix)
    → declared_of_post scope left (postfixes ++ postfix ∷ []) ≡ declared_past scope (declared_of_post scope left postfixes) postfix
declared_followed scope left [] postfix = refl
declared_followed scope left (other ∷ postfixes) postfix = declared_followed scope (declared_past scope left other) postfixes postfix

-- ---- how many

added_longer : (b : Bool) (names : List Name) (n : Name) → length names ≤ length (if b then names else names ++ n ∷ [])
added_longer true names n = omega arith
added_longer false names n = omega (arith, length-append names (n ∷ []))

pub first_fits : (names others : List Name) → length names ≤ length (joined_names names others)
first_fits names [] = omega arith
first_fits names (n ∷ others) =
    let one = added_longer (is_among names n) names n in
    let rest = first_fits (insert_key bytes_eq names n) others in
    omega (arith, one, rest)

pub second_fits : (scope : ScopeView) (names : List Name) (expr : Expr)
    → length (declared_of scope expr) ≤ length (joined_names names (declared_of scope expr))
second_fits scope names expr =
    length-le_from_is_member nat_list_eq_equiv (declared_of scope expr) (joined_names names (declared_of scope expr))
    (IsDistinct-from_AllPairs bytes_eq-Decides (declared_of scope expr) (declared_distinct scope expr))
    (λ n there. other_is_there names (declared_of scope expr) n there)

pub links_fit : (m : Count) (scope : ScopeView) (left : List Name) (row : Row_of-Link m)
    → length left ≤ length (declared_past_links scope left row)
links_fit m scope left end_of-Link = omega arith
links_fit m scope left (more_of-Link operator operand rest) =
    let one = first_fits left (declared_of scope operand) in
    let behind = links_fit _ scope (joined_names left (declared_of scope operand)) rest in
    omega (arith, one, behind)

pub postfix_fits : (scope : ScopeView) (left : List Name) (postfix : Postfix) → length left ≤ length (declared_past scope left postfix)
postfix_fits scope left Inverse = omega arith
postfix_fits scope left (Apply argument) = first_fits left (declared_of scope argument)
postfix_fits scope left (Item number) = omega arith

pub postfixes_fit : (m : Count) (scope : ScopeView) (left : List Name) (row : Row_of-Postfix m)
    → length left ≤ length (declared_past_postfixes scope left row)
postfixes_fit m scope left end_of-Postfix = omega arith
postfixes_fit m scope left (more_of-Postfix postfix rest) =
    let one = postfix_fits scope left postfix in
    let behind = postfixes_fit _ scope (declared_past scope left postfix) rest in
    omega (arith, one, behind)
