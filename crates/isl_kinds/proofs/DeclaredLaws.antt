-- Declared parameters at the constructors of the code.
use mathlib.Core.Former.{Count}
use Rattle.std.proofs.Common.{◌≡◌, ◌∙◌, Bool, true, false, ◌||◌, List, [], ◌∷◌, ◌++◌, Option, Some, None, refl, sym, ap, subst}
use Rattle.std.proofs.Common.{if◌then◌else◌}
use Rattle.std.specs.List.{list_any}
use Rattle.std.specs.Str.{bytes_eq}
use Rattle.std.proofs.lemmas.List.Folds.{list_any-append}
use Rattle.std.proofs.lemmas.Slice.Eq.{bytes_eq-Decides}
use Rattle.indexmap.specs.IndexSet.{insert_key}
use Rattle.isl_space.specs.Name.{Name}
use Rattle.isl_tree.specs.declared.statement.Prefix.{Prefix as Word}
use Rattle.isl_tree.specs.declared.statement.Link.{Link}
use Rattle.isl_tree.specs.declared.statement.Postfix.{Postfix, Inverse, Apply, Item}
use Rattle.isl_tree.specs.declared.statement.Expr as e
use Rattle.isl_tree.specs.declared.statement.Expr.{Expr, Row, Prefix, Any, Last, Post, Row', Prefix', Any', Last', Post', Row_of-Expr}
use Rattle.isl_tree.specs.declared.statement.Expr.{end_of-Expr, more_of-Expr}
use Rattle.isl_tree.specs.declared.statement.Expr.{Row_of-Link, end_of-Link, more_of-Link}
use Rattle.isl_tree.specs.declared.statement.Expr.{Row_of-Postfix, end_of-Postfix, more_of-Postfix, items-the_row-Link}
use Rattle.isl_tree.specs.declared.statement.Expr.{items-the_row-Postfix}
use Rattle.isl_tree.specs.declared.statement.Expr.{items_hidden-the_row-Link-1, items_hidden-the_row-Postfix-2}
use Rattle.isl_tree.specs.declared.statement.Expr.TheBlock.{hidden-the_row-Expr-0, hidden-the_row-Link-1, hidden-the_row-Postfix-2}
use Rattle.isl_kinds.specs.Typed.{ScopeView, TypeView, bound_to, params_of, joined_names, declared_of, declared_in, declared_past_links}
use Rattle.isl_kinds.specs.Typed.{declared_past_postfixes, declared_past}
use Rattle.isl_kinds.specs.Typed.{declared_of_row, declared_of_post}

-- ---- joined lists

abbrev pub has : List Name → Name → Bool
has names n = list_any (bytes_eq n) names

or_true : (a : Bool) → (a || true) ≡ true
or_true true = refl
or_true false = refl

-- what is behind a test is behind the test of the same name
here : (names : List Name) (n m : Name) → n ≡ m → has names m ≡ true → has names n ≡ true
here names n m same there = subst (λ (k : Name). has names k ≡ true) (sym same) there

-- a name that is added is there
added_is_there : (b : Bool) (names : List Name) (n m : Name) → n ≡ m → b ≡ has names m → has (if b then names else names ++ m ∷ []) n ≡ true
added_is_there true names n m same is = here names n m same (sym is)
added_is_there false names n m same is =
    list_any-append (bytes_eq n) names (m ∷ [])
    ∙ ap (λ (b : Bool). has names n || (b || false)) ((bytes_eq-Decides n m).1 same)
    ∙ or_true (has names n)

-- a name that is there stays
stays : (b : Bool) (names : List Name) (n m : Name) → has names n ≡ true → has (if b then names else names ++ m ∷ []) n ≡ true
stays true names n m there = there
stays false names n m there = list_any-append (bytes_eq n) names (m ∷ []) ∙ ap (λ (b : Bool). b || has (m ∷ []) n) there

joined_stays : (names others : List Name) (n : Name) → has names n ≡ true → has (joined_names names others) n ≡ true
joined_stays names [] n there = there
joined_stays names (m ∷ others) n there = joined_stays (insert_key bytes_eq names m) others n (stays (has names m) names n m there)

-- a name of the others is there once they are joined
pub other_is_there : (names others : List Name) (n : Name) → has others n ≡ true → has (joined_names names others) n ≡ true
other_is_there names [] n there = absurd (false_is_true there)
  where
    false_is_true : false ≡ true → ⊥
    false_is_true e = cc
other_is_there names (m ∷ others) n there =
    by_first (bytes_eq n m) refl there (λ later. other_is_there (insert_key bytes_eq names m) others n later)
  where
    by_first : (b : Bool) → b ≡ bytes_eq n m → (b || has others n) ≡ true
        → (has others n ≡ true → has (joined_names (insert_key bytes_eq names m) others) n ≡ true)
        → has (joined_names (insert_key bytes_eq names m) others) n ≡ true
    by_first true is any further = joined_stays (insert_key bytes_eq names m) others n
        (added_is_there (has names m) names n m ((bytes_eq-Decides n m).0 (sym is)) refl)
    by_first false is any further = further any

-- one more behind the others is one more behind all
joined_one : (names others : List Name) (n : Name)
    → joined_names names (others ++ n ∷ []) ≡ insert_key bytes_eq (joined_names names others) n
joined_one names [] n = refl
joined_one names (m ∷ others) n = joined_one (insert_key bytes_eq names m) others n

joined_added : (names others : List Name) (n : Name)
    → joined_names names (insert_key bytes_eq others n) ≡ insert_key bytes_eq (joined_names names others) n
joined_added names others n = by_test (has others n) refl
  where
    by_test : (b : Bool) → b ≡ has others n
        → joined_names names (if b then others else others ++ n ∷ []) ≡ insert_key bytes_eq (joined_names names others) n
    by_test true is = sym (ap (λ (b : Bool). if b then joined_names names others else joined_names names others ++ n ∷ [])
        (other_is_there names others n (sym is)))
    by_test false is = joined_one names others n

-- three lists are joined alike from the left and from the right
pub joined_joined : (a b c : List Name) → joined_names a (joined_names b c) ≡ joined_names (joined_names a b) c
joined_joined a b [] = refl
joined_joined a b (n ∷ c) = joined_joined a (insert_key bytes_eq b n) c ∙ ap (λ ns. joined_names ns c) (joined_added a b n)

-- ---- rows

links_are : (m : Count) (scope : ScopeView) (left : List Name) (row : Row_of-Link m)
    → declared_past_links scope left row ≡ declared_of_row scope left (items-the_row-Link m row)
links_are m scope left end_of-Link = refl
links_are m scope left (more_of-Link operator operand row) = links_are _ scope (joined_names left (declared_of scope operand)) row

postfixes_are : (m : Count) (scope : ScopeView) (left : List Name) (row : Row_of-Postfix m)
    → declared_past_postfixes scope left row ≡ declared_of_post scope left (items-the_row-Postfix m row)
postfixes_are m scope left end_of-Postfix = refl
postfixes_are m scope left (more_of-Postfix postfix row) = postfixes_are _ scope (declared_past scope left postfix) row

-- what is declared behind names, all together
row_behind : (scope : ScopeView) (names left : List Name) (links : List Link)
    → declared_of_row scope (joined_names names left) links ≡ joined_names names (declared_of_row scope left links)
row_behind scope names left [] = refl
row_behind scope names left (link ∷ links) =
    ap (λ ns. declared_of_row scope ns links) (sym (joined_joined names left (declared_of scope link.operand)))
    ∙ row_behind scope names (joined_names left (declared_of scope link.operand)) links

past_behind : (scope : ScopeView) (names left : List Name) (postfix : Postfix)
    → declared_past scope (joined_names names left) postfix ≡ joined_names names (declared_past scope left postfix)
past_behind scope names left Inverse = refl
past_behind scope names left (Apply argument) = sym (joined_joined names left (declared_of scope argument))
past_behind scope names left (Item number) = refl

post_behind : (scope : ScopeView) (names left : List Name) (postfixes : List Postfix)
    → declared_of_post scope (joined_names names left) postfixes ≡ joined_names names (declared_of_post scope left postfixes)
post_behind scope names left [] = refl
post_behind scope names left (postfix ∷ postfixes) =
    ap (λ ns. declared_of_post scope ns postfixes) (past_behind scope names left postfix)
    ∙ post_behind scope names (declared_past scope left postfix) postfixes

-- ---- at the constructors of the code

pub declared_of-Prefix : (scope : ScopeView) (word : Word) (operand : Expr)
    → declared_of scope (Prefix word operand) ≡ declared_of scope operand
unfolding hidden-the_row-Expr-0 denote.Hole.Carrier.hidden
declared_of-Prefix scope word operand = refl

pub declared_of-Row : (scope : ScopeView) (first : Expr) (links : List Link)
    → declared_of scope (Row first links) ≡ declared_of_row scope (declared_of scope first) links
unfolding hidden-the_row-Expr-0 denote.Hole.Carrier.hidden
declared_of-Row scope first links =
    links_are _ scope (declared_of scope first) (hidden-the_row-Link-1 links)
    ∙ ap (declared_of_row scope (declared_of scope first)) (items_hidden-the_row-Link-1 links)

pub declared_of-Post : (scope : ScopeView) (operand : Expr) (postfixes : List Postfix)
    → declared_of scope (Post operand postfixes) ≡ declared_of_post scope (declared_of scope operand) postfixes
unfolding hidden-the_row-Expr-0 denote.Hole.Carrier.hidden
declared_of-Post scope operand postfixes =
    postfixes_are _ scope (declared_of scope operand) (hidden-the_row-Postfix-2 postfixes)
    ∙ ap (declared_of_post scope (declared_of scope operand)) (items_hidden-the_row-Postfix-2 postfixes)

pub declared_of-Any : (scope : ScopeView) (source sink schedule : Expr) → declared_of scope (Any source sink schedule) ≡
    joined_names (joined_names (declared_of scope source) (declared_of scope sink)) (declared_of scope schedule)
unfolding hidden-the_row-Expr-0 denote.Hole.Carrier.hidden
declared_of-Any scope source sink schedule = refl

pub declared_of-Last : (scope : ScopeView) (source sink schedule : Expr) → declared_of scope (Last source sink schedule) ≡
    joined_names (joined_names (declared_of scope source) (declared_of scope sink)) (declared_of scope schedule)
unfolding hidden-the_row-Expr-0 denote.Hole.Carrier.hidden
declared_of-Last scope source sink schedule = refl

-- ---- each name stands once

abbrev pub IsOnce : List Name → Type 0
IsOnce names = joined_names [] names ≡ names

pub once_joined : (names others : List Name) → IsOnce names → IsOnce (joined_names names others)
once_joined names others is = joined_joined [] names others ∙ ap (λ ns. joined_names ns others) is

once_leaf : (others : List Name) → IsOnce (joined_names [] others)
once_leaf others = once_joined [] others refl

once_params : (o : Option TypeView) → IsOnce (params_of o)
once_params None = refl
once_params (Some t) = once_leaf t.params

once_past_links : (m : Count) (scope : ScopeView) (left : List Name) (row : Row_of-Link m) → IsOnce left
    → IsOnce (declared_past_links scope left row)
once_past_links m scope left end_of-Link is = is
once_past_links m scope left (more_of-Link operator operand row) is =
    once_past_links _ scope (joined_names left (declared_of scope operand)) row (once_joined left (declared_of scope operand) is)

pub once_past : (scope : ScopeView) (left : List Name) (postfix : Postfix) → IsOnce left → IsOnce (declared_past scope left postfix)
once_past scope left Inverse is = is
once_past scope left (Apply argument) is = once_joined left (declared_of scope argument) is
once_past scope left (Item number) is = is

once_past_postfixes : (m : Count) (scope : ScopeView) (left : List Name) (row : Row_of-Postfix m) → IsOnce left
    → IsOnce (declared_past_postfixes scope left row)
once_past_postfixes m scope left end_of-Postfix is = is
once_past_postfixes m scope left (more_of-Postfix postfix row) is =
    once_past_postfixes _ scope (declared_past scope left postfix) row (once_past scope left postfix is)

once_three : (a b c : List Name) → IsOnce a → IsOnce (joined_names (joined_names a b) c)
once_three a b c is = once_joined (joined_names a b) c (once_joined a b is)

mutual
  pub once : (scope : ScopeView) (expr : Expr) → joined_names [] (declared_of scope expr) ≡ declared_of scope expr
  once scope (e.Name name) = once_params (bound_to scope name)
  once scope (e.Literal literal) = once_leaf literal.params
  once scope (Row' s first t links) = once_past_links _ scope (declared_in scope first) links (once_in _ scope first)
  once scope (Prefix' word s operand) = once_in _ scope operand
  once scope (Any' r source s sink t schedule) =
      once_three (declared_in scope source) (declared_in scope sink) (declared_in scope schedule) (once_in _ scope source)
  once scope (Last' r source s sink t schedule) =
      once_three (declared_in scope source) (declared_in scope sink) (declared_in scope schedule) (once_in _ scope source)
  once scope (Post' s operand t postfixes) = once_past_postfixes _ scope (declared_in scope operand) postfixes (once_in _ scope operand)

  once_in : (m : Count) (scope : ScopeView) (row : Row_of-Expr m) → joined_names [] (declared_in scope row) ≡ declared_in scope row
  once_in m scope end_of-Expr = refl
  once_in m scope (more_of-Expr expr rest) = once scope expr

pub nothing_before : (scope : ScopeView) (expr : Expr) (names : List Name) → names ≡ joined_names [] (declared_of scope expr)
    → names ≡ declared_of scope expr
nothing_before scope expr names is = is ∙ once scope expr

-- ---- one operand after the other

pub at-Leaf : (names others : List Name) → joined_names names (joined_names [] others) ≡ joined_names names others
at-Leaf names others = joined_joined names [] others

pub at-Prefix : (scope : ScopeView) (x operand : Expr) (word : Word) (old new : List Name) → x ≡ Prefix word operand
    → new ≡ joined_names old (declared_of scope operand) → new ≡ joined_names old (declared_of scope x)
at-Prefix scope x operand word old new is inner =
    inner ∙ sym (ap (λ y. joined_names old (declared_of scope y)) is ∙ ap (joined_names old) (declared_of-Prefix scope word operand))

pub at-Row : (scope : ScopeView) (x first : Expr) (links : List Link) (old next new : List Name) → x ≡ Row first links
    → next ≡ joined_names old (declared_of scope first) → new ≡ declared_of_row scope next links
    → new ≡ joined_names old (declared_of scope x)
at-Row scope x first links old next new is left right =
    right
    ∙ ap (λ ns. declared_of_row scope ns links) left
    ∙ row_behind scope old (declared_of scope first) links
    ∙ sym (ap (λ y. joined_names old (declared_of scope y)) is ∙ ap (joined_names old) (declared_of-Row scope first links))

pub at-Post : (scope : ScopeView) (x operand : Expr) (postfixes : List Postfix) (old next new : List Name) → x ≡ Post operand postfixes
    → next ≡ joined_names old (declared_of scope operand) → new ≡ declared_of_post scope next postfixes
    → new ≡ joined_names old (declared_of scope x)
at-Post scope x operand postfixes old next new is left right =
    right
    ∙ ap (λ ns. declared_of_post scope ns postfixes) left
    ∙ post_behind scope old (declared_of scope operand) postfixes
    ∙ sym (ap (λ y. joined_names old (declared_of scope y)) is ∙ ap (joined_names old) (declared_of-Post scope operand postfixes))

three_joined : (old a b c one two three : List Name) → one ≡ joined_names old a → two ≡ joined_names one b → three ≡ joined_names two c
    → three ≡ joined_names old (joined_names (joined_names a b) c)
three_joined old a b c one two three first second third =
    third
    ∙ ap (λ ns. joined_names ns c) (second ∙ ap (λ ns. joined_names ns b) first ∙ sym (joined_joined old a b))
    ∙ sym (joined_joined old (joined_names a b) c)

pub at-Any : (scope : ScopeView) (x source sink schedule : Expr) (old one two new : List Name) → x ≡ Any source sink schedule
    → one ≡ joined_names old (declared_of scope source) → two ≡ joined_names one (declared_of scope sink)
    → new ≡ joined_names two (declared_of scope schedule) → new ≡ joined_names old (declared_of scope x)
at-Any scope x source sink schedule old one two new is first second third =
    three_joined old (declared_of scope source) (declared_of scope sink) (declared_of scope schedule) one two new first second third
    ∙ sym (ap (λ y. joined_names old (declared_of scope y)) is ∙ ap (joined_names old) (declared_of-Any scope source sink schedule))

pub at-Last : (scope : ScopeView) (x source sink schedule : Expr) (old one two new : List Name) → x ≡ Last source sink schedule
    → one ≡ joined_names old (declared_of scope source) → two ≡ joined_names one (declared_of scope sink)
    → new ≡ joined_names two (declared_of scope schedule) → new ≡ joined_names old (declared_of scope x)
at-Last scope x source sink schedule old one two new is first second third =
    three_joined old (declared_of scope source) (declared_of scope sink) (declared_of scope schedule) one two new first second third
    ∙ sym (ap (λ y. joined_names old (declared_of scope y)) is ∙ ap (joined_names old) (declared_of-Last scope source sink schedule))

pub ruleset leaves = (at-Leaf)
