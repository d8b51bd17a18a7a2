-- Which identifiers are known, at the constructors of the code.
use mathlib.Core.Former.{Count}
use Rattle.std.proofs.Common.{◌≡◌, ◌∙◌, ℕ, ◌+◌, ◌<◌, Bool, true, false, ◌&&◌, List, [], ◌∷◌, ◌++◌, Option, Some, None, refl, sym, ap, ap₂}
use Rattle.std.proofs.Common.{get_or, take, drop, length}
use Rattle.std.specs.Prelude.{ℤ}
use Rattle.std.specs.List.{list_all}
use Rattle.std.proofs.lemmas.List.{append-nil, take_more, drop_more}
use Rattle.std.proofs.lemmas.List.Folds.{list_all-append}
use Rattle.isl_space.specs.Name.{Name}
use Rattle.isl_tree.specs.declared.tree.Factor.{Factor, Inner, Floor, Ceil, Row_of-Signed, end_of-Signed, more_of-Signed}
use Rattle.isl_tree.specs.declared.tree.Factor.{items-the_row-Signed, items_hidden-the_row-Signed-0}
use Rattle.isl_tree.specs.declared.tree.Factor.TheBlock.{hidden-the_row-Signed-0}
use Rattle.isl_tree.specs.declared.tree.Signed.{Signed}
use Rattle.isl_tree.specs.declared.tree.Binder.{Binder}
use Rattle.isl_tree.specs.declared.tree.Formula.{Formula, Implies, Or, And, Not, Exists, Row_of-Formula, end_of-Formula, more_of-Formula}
use Rattle.isl_tree.specs.declared.tree.Formula.{items-the_row-Formula, items_hidden-the_row-Formula-0}
use Rattle.isl_tree.specs.declared.tree.Formula.TheBlock.{hidden-the_row-Formula-0, hidden-the_row-Formula-1}
use Rattle.isl_tree.specs.declared.tree.Entry.{Entry}
use Rattle.isl_tree.specs.declared.tree.Tuple.{Tuple, Pair}
use Rattle.isl_tree.specs.declared.tree.PieceTree.{PieceTree}
use Rattle.isl_tree.specs.Term.{Term}
use Rattle.isl_tree.specs.Literal.{is_among, new_name, known_after, entries_of, second_entries, piece_entries}
use Rattle.isl_tree.specs.Known.{factor_names, sum_names, signed_names, term_names, term_is_known, binders_are_known, known_below}
use Rattle.isl_tree.specs.Known.{formula_is_known}
use Rattle.isl_tree.specs.Known.{formulas_are_known, entry_is_known, entries_are_known, known_behind, body_is_known, piece_is_known}
use Rattle.isl_kinds.specs.Place.{value_is_known}
use Rattle.isl_kinds.proofs.PlaceLaws.{entries_of-Pair}

-- ---- terms

pub part_known : (known : List Name) (part : Signed) (parts : List Signed)
    → term_is_known known (part ∷ parts) ≡ (list_all (is_among known) (signed_names part) && term_is_known known parts)
part_known known part parts = list_all-append (is_among known) (signed_names part) (term_names parts)

pub ruleset terms = (part_known)

row_is : (m : Count) (row : Row_of-Signed m) → sum_names row ≡ term_names (items-the_row-Signed m row)
row_is m end_of-Signed = refl
row_is m (more_of-Signed part row) = ap (λ ns. signed_names part ++ ns) (row_is _ row)

inside : (term : List Signed) → sum_names (hidden-the_row-Signed-0 term) ≡ term_names term
inside term = row_is _ (hidden-the_row-Signed-0 term) ∙ ap term_names (items_hidden-the_row-Signed-0 term)

pub at-Inner : (known : List Name) (x : Factor) (term : List Signed) (b : Bool) → x ≡ Inner term → b ≡ term_is_known known term
    → b ≡ list_all (is_among known) (factor_names x)
at-Inner known x term b is all =
    all ∙ sym (ap (λ f. list_all (is_among known) (factor_names f)) is ∙ ap (list_all (is_among known)) (inside term))

pub at-Floor : (known : List Name) (x : Factor) (term : List Signed) (k : ℤ) (b : Bool) → x ≡ Floor term k → b ≡ term_is_known known term
    → b ≡ list_all (is_among known) (factor_names x)
at-Floor known x term k b is all =
    all ∙ sym (ap (λ f. list_all (is_among known) (factor_names f)) is ∙ ap (list_all (is_among known)) (inside term))

pub at-Ceil : (known : List Name) (x : Factor) (term : List Signed) (k : ℤ) (b : Bool) → x ≡ Ceil term k → b ≡ term_is_known known term
    → b ≡ list_all (is_among known) (factor_names x)
at-Ceil known x term k b is all =
    all ∙ sym (ap (λ f. list_all (is_among known) (factor_names f)) is ∙ ap (list_all (is_among known)) (inside term))

pub ruleset factors = (at-Inner, at-Floor, at-Ceil)

-- ---- binders

below_append : (known : List Name) (binders : List Binder) (b : Binder)
    → known_below known (binders ++ b ∷ []) ≡ b.name ∷ known_below known binders
below_append known [] b = refl
below_append known (binder ∷ binders) b = below_append (binder.name ∷ known) binders b

binder_known : (known : List Name) (name : Name) (value : Option Term) (binders : List Binder)
    → binders_are_known known (record { name = name; value = value } ∷ binders) ≡
    (value_is_known known value && binders_are_known (name ∷ known) binders)
binder_known known name None binders = refl
binder_known known name (Some term) binders = refl

pub binders_next : (known : List Name) (binders : List Binder) (i : ℕ) (b : Binder) → i < length binders → b ≡ get_or binders i b
    → binders_are_known (known_below known (take i binders)) (drop i binders) ≡
    (value_is_known (known_below known (take i binders)) b.value
    && binders_are_known (known_below known (take (i + 1) binders)) (drop (i + 1) binders))
binders_next known binders i b within is =
    let before = known_below known (take i binders) in
    let next : known_below known (take (i + 1) binders) ≡ b.name ∷ before =
    ap (known_below known) (take_more binders i b within ∙ sym (ap (λ m. take i binders ++ m ∷ []) is))
    ∙ below_append known (take i binders) b in
    ap (binders_are_known before) (drop_more binders i b within ∙ sym (ap (λ m. m ∷ drop (i + 1) binders) is))
    ∙ binder_known before b.name b.value (drop (i + 1) binders)
    ∙ ap (λ names. value_is_known before b.value && binders_are_known names (drop (i + 1) binders)) (sym next)

-- ---- formulas

formulas_are : (m : Count) (known : List Name) (row : Row_of-Formula m)
    → formulas_are_known known row ≡ list_all (formula_is_known known) (items-the_row-Formula m row)
formulas_are m known end_of-Formula = refl
formulas_are m known (more_of-Formula f row) = ap (λ (b : Bool). formula_is_known known f && b) (formulas_are _ known row)

joined : (known : List Name) (fs : List Formula)
    → formulas_are_known known (hidden-the_row-Formula-0 fs) ≡ list_all (formula_is_known known) fs
joined known fs =
    formulas_are _ known (hidden-the_row-Formula-0 fs) ∙ ap (list_all (formula_is_known known)) (items_hidden-the_row-Formula-0 fs)

pub at-Implies : (known : List Name) (x : Formula) (fs : List Formula) (b : Bool) → x ≡ Implies fs
    → b ≡ list_all (formula_is_known known) fs → b ≡ formula_is_known known x
at-Implies known x fs b is all = all ∙ sym (ap (formula_is_known known) is ∙ joined known fs)

pub at-Or : (known : List Name) (x : Formula) (fs : List Formula) (b : Bool) → x ≡ Or fs
    → b ≡ list_all (formula_is_known known) fs → b ≡ formula_is_known known x
at-Or known x fs b is all = all ∙ sym (ap (formula_is_known known) is ∙ joined known fs)

pub at-And : (known : List Name) (x : Formula) (fs : List Formula) (b : Bool) → x ≡ And fs
    → b ≡ list_all (formula_is_known known) fs → b ≡ formula_is_known known x
at-And known x fs b is all = all ∙ sym (ap (formula_is_known known) is ∙ joined known fs)

and_true : (b : Bool) → (b && true) ≡ b
and_true true = refl
and_true false = refl

not_known : (known : List Name) (f : Formula) → formula_is_known known (Not f) ≡ formula_is_known known f
unfolding hidden-the_row-Formula-1 denote.Hole.Carrier.hidden
not_known known f = and_true (formula_is_known known f)

pub at-Not : (known : List Name) (x f : Formula) (b : Bool) → x ≡ Not f → b ≡ formula_is_known known f → b ≡ formula_is_known known x
at-Not known x f b is one = one ∙ sym (ap (formula_is_known known) is ∙ not_known known f)

exists_known : (known : List Name) (bs : List Binder) (f : Formula)
    → formula_is_known known (Exists bs f) ≡ (binders_are_known known bs && formula_is_known (known_below known bs) f)
unfolding hidden-the_row-Formula-1 denote.Hole.Carrier.hidden
exists_known known bs f = ap (λ (b : Bool). binders_are_known known bs && b) (and_true (formula_is_known (known_below known bs) f))

pub at-Exists : (known : List Name) (x f : Formula) (bs : List Binder) (a b : Bool) → x ≡ Exists bs f → a ≡ binders_are_known known bs
    → b ≡ formula_is_known (known_below known bs) f → (a && b) ≡ formula_is_known known x
at-Exists known x f bs a b is first second =
    ap₂ (λ (p q : Bool). p && q) first second ∙ sym (ap (formula_is_known known) is ∙ exists_known known bs f)

pub ruleset formulas = (at-Implies, at-Or, at-And, at-Not, at-Exists)

-- ---- entries

behind_append : (known : List Name) (entries more : List Entry)
    → known_behind known (entries ++ more) ≡ known_behind (known_behind known entries) more
behind_append known [] more = refl
behind_append known (entry ∷ entries) more = behind_append (known_after known (new_name known entry)) entries more

and_right : (a b c : Bool) → (a && (b && c)) ≡ ((a && b) && c)
and_right true b c = refl
and_right false b c = refl

entries_append : (known : List Name) (entries more : List Entry)
    → entries_are_known known (entries ++ more) ≡ (entries_are_known known entries && entries_are_known (known_behind known entries) more)
entries_append known [] more = refl
entries_append known (entry ∷ entries) more =
    let next = known_after known (new_name known entry) in
    ap (λ (b : Bool). entry_is_known known entry && b) (entries_append next entries more)
    ∙ and_right (entry_is_known known entry) (entries_are_known next entries) (entries_are_known (known_behind next entries) more)

pub entries_next : (known : List Name) (entries : List Entry) (i : ℕ) (e : Entry) → i < length entries → e ≡ get_or entries i e
    → entries_are_known (known_behind known (take i entries)) (drop i entries) ≡
    (entry_is_known (known_behind known (take i entries)) e
    && entries_are_known (known_behind known (take (i + 1) entries)) (drop (i + 1) entries))
entries_next known entries i e within is =
    let before = known_behind known (take i entries) in
    let next : known_behind known (take (i + 1) entries) ≡ known_after before (new_name before e) =
    ap (known_behind known) (take_more entries i e within ∙ sym (ap (λ m. take i entries ++ m ∷ []) is))
    ∙ behind_append known (take i entries) (e ∷ []) in
    ap (entries_are_known before) (drop_more entries i e within ∙ sym (ap (λ m. m ∷ drop (i + 1) entries) is))
    ∙ ap (λ names. entry_is_known before e && entries_are_known names (drop (i + 1) entries)) (sym next)

-- ---- tuples and pieces

pub at-Pair : (known : List Name) (x a b : Tuple) (p q : Bool) → x ≡ Pair a b → p ≡ entries_are_known known (entries_of a)
    → q ≡ entries_are_known (known_behind known (entries_of a)) (entries_of b) → (p && q) ≡ entries_are_known known (entries_of x)
at-Pair known x a b p q is first second =
    ap₂ (λ (r s : Bool). r && s) first second
    ∙ sym (ap (λ t. entries_are_known known (entries_of t)) is ∙ ap (entries_are_known known) (entries_of-Pair a b)
    ∙ entries_append known (entries_of a) (entries_of b))

pub ruleset tuples = (at-Pair)

pub at-Set : (params : List Name) (piece : PieceTree) (p q : Bool) → piece.second ≡ None
    → p ≡ entries_are_known params (entries_of piece.first)
    → q ≡ body_is_known (known_behind params (entries_of piece.first)) piece.body → (p && q) ≡ piece_is_known params piece
at-Set params piece p q none first body =
    let alone : piece_entries piece ≡ entries_of piece.first =
    ap (λ o. entries_of piece.first ++ second_entries o) none ∙ append-nil (entries_of piece.first) in
    ap₂ (λ (r s : Bool). r && s) first body
    ∙ sym (ap (λ es. entries_are_known params es && body_is_known (known_behind params es) piece.body) alone)

pub at-Map : (params : List Name) (piece : PieceTree) (t : Tuple) (p q r : Bool) → piece.second ≡ Some t
    → p ≡ entries_are_known params (entries_of piece.first)
    → q ≡ entries_are_known (known_behind params (entries_of piece.first)) (entries_of t)
    → r ≡ body_is_known (known_behind (known_behind params (entries_of piece.first)) (entries_of t)) piece.body
    → (p && q && r) ≡ piece_is_known params piece
at-Map params piece t p q r two first second body =
    let es = entries_of piece.first in
    let both : piece_entries piece ≡ es ++ entries_of t = ap (λ o. es ++ second_entries o) two in
    ap₂ (λ (a b : Bool). a && b) (ap₂ (λ (a b : Bool). a && b) first second ∙ sym (entries_append params es (entries_of t))) body
    ∙ ap (λ names. entries_are_known params (es ++ entries_of t) && body_is_known names piece.body)
    (sym (behind_append params es (entries_of t)))
    ∙ sym (ap (λ l. entries_are_known params l && body_is_known (known_behind params l) piece.body) both)

pub ruleset pieces = (at-Set, at-Map)
