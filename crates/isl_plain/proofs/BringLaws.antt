-- An entry brings in a name exactly where the name's column is its own.
use Rattle.std.proofs.Common.{◌≡◌, ◌∙◌, refl, sym, ap, ap₂, ℕ, ◌+◌, ◌<◌, Bool, true, false, List, [], ◌∷◌, ◌++◌, length, arith, Option}
use Rattle.std.proofs.Common.{None, Some}
use Rattle.std.specs.Prelude.{is_some, ◌==◌, ◌&&◌}
use Rattle.std.specs.List.{position_from, list_all}
use Rattle.std.proofs.lemmas.Bool.{false≢true, cases_Bool, cond-true, cond-false}
use Rattle.std.proofs.lemmas.List.{append_assoc, length-append}
use mathlib.Core.Logic.{inl, inr}
use Rattle.isl_tree.specs.declared.tree.Entry.{Entry}
use Rattle.isl_tree.specs.declared.tree.Entry.TheVariants.{Plain, Named}
use Rattle.isl_tree.specs.Literal.{is_among, lone_name, unless_known, new_name, known_after}
use Rattle.isl_tree.specs.Known.{known_behind}
use Rattle.isl_tree.specs.Plain.{is_plain_entry}
use Rattle.isl_plain.specs.Places.{entry_name, is_name, entry_from, param_from, first_some, place_of, is_at, brings_name, brings}
use Rattle.isl_plain.specs.Rows.{Written, written_entry, written_entries, placed_entry, placed_entries}
use Rattle.isl_plain.proofs.TermLaws.{both_true}
use Rattle.isl_plain.proofs.PlainLaws.{all_of_both}
use Rattle.isl_plain.proofs.PlaceLaws.{place_is, from_append}
use Rattle.std.specs.Str.{bytes_eq}
use Rattle.std.proofs.lemmas.Slice.Eq.{bytes_eq-Decides}

-- a place that is found lies below the end
from_below : {A : Type 0} (test : A → Bool) (i : ℕ) (xs : List A) (at : ℕ) → position_from test i xs ≡ Some at → at < i + length xs
from_below test i [] at e = absurd (let bad : ⊥ = cc in bad)
from_below test i (x ∷ xs) at e = elim (cases_Bool (test x)) [
  | inl is ↦ let f : Some i ≡ Some at = sym (cond-true _ _ _ is) ∙ e in let same : i ≡ at = cc in omega arith
  | inr is ↦ let more = from_below test (i + 1) xs at (sym (cond-false _ _ _ is) ∙ e) in omega arith
]

not_equal : (a b : ℕ) → a < b → (a == b) ≡ false
not_equal a b lt = search arith

-- the place of a name of the entries before, and of the entry's own name
place_before : (params : List (List ℕ)) (before : List Entry) (entry : Entry) (behind : List Entry) (name : List ℕ) (place : ℕ)
    → place_of params before name ≡ Some place → place_of params (before ++ entry ∷ behind) name ≡ Some place
place_before params before entry behind name place e = go (param_from 0 params name) refl
  where
    go : (o : Option ℕ) → param_from 0 params name ≡ o → place_of params (before ++ entry ∷ behind) name ≡ Some place
    go (Some p) f =
        ap (λ (q : Option ℕ). first_some q (entry_from (length params) (before ++ entry ∷ behind) name)) f
        ∙ sym (ap (λ (q : Option ℕ). first_some q (entry_from (length params) before name)) f) ∙ e
    go None f =
        let found : entry_from (length params) before name ≡ Some place = sym
        (ap (λ (q : Option ℕ). first_some q (entry_from (length params) before name)) f) ∙ e in
        ap (λ (q : Option ℕ). first_some q (entry_from (length params) (before ++ entry ∷ behind) name)) f
        ∙ from_append (λ x. is_name (entry_name x) name) (length params) before (entry ∷ behind)
        ∙ ap (λ (q : Option ℕ). first_some q (entry_from (length params + length before) (entry ∷ behind) name)) found

place_own : (params : List (List ℕ)) (before : List Entry) (entry : Entry) (behind : List Entry) (name : List ℕ)
    → place_of params before name ≡ None → is_name (entry_name entry) name ≡ true
    → place_of params (before ++ entry ∷ behind) name ≡ Some (length params + length before)
place_own params before entry behind name e own = go (param_from 0 params name) refl
  where
    go : (o : Option ℕ) → param_from 0 params name ≡ o
        → place_of params (before ++ entry ∷ behind) name ≡ Some (length params + length before)
    go (Some p) f =
        absurd (let bad : None ≡ Some p = sym e ∙ ap (λ (q : Option ℕ). first_some q (entry_from (length params) before name))
        f in let worse : ⊥ = cc in worse)
    go None f =
        let none : entry_from (length params) before name ≡ None = sym
        (ap (λ (q : Option ℕ). first_some q (entry_from (length params) before name)) f) ∙ e in
        ap (λ (q : Option ℕ). first_some q (entry_from (length params) (before ++ entry ∷ behind) name)) f
        ∙ from_append (λ x. is_name (entry_name x) name) (length params) before (entry ∷ behind)
        ∙ ap (λ (q : Option ℕ). first_some q (entry_from (length params + length before) (entry ∷ behind) name)) none
        ∙ cond-true _ _ _ own

place_below : (params : List (List ℕ)) (before : List Entry) (name : List ℕ) (place : ℕ) → place_of params before name ≡ Some place
    → place < length params + length before
place_below params before name place e = go (param_from 0 params name) refl
  where
    go : (o : Option ℕ) → param_from 0 params name ≡ o → place < length params + length before
    go (Some p) f =
        let same : Some p ≡ Some place = sym (ap (λ (q : Option ℕ). first_some q (entry_from (length params) before name)) f) ∙ e in
        let is : p ≡ place = cc in
        let below = from_below (λ m. bytes_eq m name) 0 params p f in omega arith
    go None f =
        from_below (λ x. is_name (entry_name x) name) (length params) before place
        (sym (ap (λ (q : Option ℕ). first_some q (entry_from (length params) before name)) f) ∙ e)

-- whether an entry brings in a name
brings_is : (params : List (List ℕ)) (before : List Entry) (entry : Entry) (behind : List Entry) → list_all is_plain_entry before ≡ true
    → is_plain_entry entry ≡ true
    → brings params (before ++ entry ∷ behind) entry (length params + length before) ≡ is_some (new_name (known_behind params before) entry)
brings_is params before (Named m term) behind plain_before plain = absurd (false≢true plain)
brings_is params before (Plain term) behind plain_before plain = go (lone_name term) refl
  where
    entry : Entry
    entry = Plain term

    go : (o : Option (List ℕ)) → lone_name term ≡ o
        → brings_name params (before ++ Plain term ∷ behind) (lone_name term) (length params + length before) ≡ is_some
        (unless_known (known_behind params before) (lone_name term))
    go None e =
        ap (λ (q : Option (List ℕ)). brings_name params (before ++ Plain term ∷ behind) q (length params + length before)) e
        ∙ sym (ap (λ (q : Option (List ℕ)). is_some (unless_known (known_behind params before) q)) e)
    go (Some name) e =
        ap (λ (q : Option (List ℕ)). brings_name params (before ++ Plain term ∷ behind) q (length params + length before)) e
        ∙ there (place_of params before name) refl
        ∙ sym (ap (λ (q : Option (List ℕ)). is_some (unless_known (known_behind params before) q)) e)
      where
        own : is_name (entry_name (Plain term)) name ≡ true
        own = ap (λ (q : Option (List ℕ)). is_name q name) e ∙ (bytes_eq-Decides name name).1 refl

        there : (o : Option ℕ) → place_of params before name ≡ o
            → is_at (place_of params (before ++ Plain term ∷ behind) name) (length params + length before) ≡ is_some
            (unless_known (known_behind params before) (Some name))
        there (Some place) f =
            let among : is_among (known_behind params before) name ≡ true = (place_is 0 params before name plain_before).1 ∙ ap
            (λ (q : Option ℕ). is_some q) f in
            ap (λ (q : Option ℕ). is_at q (length params + length before)) (place_before params before (Plain term) behind name place f)
            ∙ not_equal place (length params + length before) (place_below params before name place f)
            ∙ sym (ap (λ (q : Option (List ℕ)). is_some q) (cond-true _ _ _ among))
        there None f =
            let unknown : is_among (known_behind params before) name ≡ false = (place_is 0 params before name plain_before).1 ∙ ap
            (λ (q : Option ℕ). is_some q) f in
            ap (λ (q : Option ℕ). is_at q (length params + length before)) (place_own params before (Plain term) behind name f own)
            ∙ same_number (length params + length before) ∙ sym (ap (λ (q : Option (List ℕ)). is_some q) (cond-false _ _ _ unknown))
          where
            same_number : (n : ℕ) → (n == n) ≡ true
            same_number n = search arith

behind_one : (known : List (List ℕ)) (before : List Entry) (entry : Entry)
    → known_behind known (before ++ entry ∷ []) ≡ known_after (known_behind known before) (new_name (known_behind known before) entry)
behind_one known [] entry = refl
behind_one known (x ∷ before) entry = behind_one (known_after known (new_name known x)) before entry

one_placed : (test : Entry → ℕ → Bool) (entry : Entry) (at : ℕ) (found : Option (List ℕ)) → test entry at ≡ is_some found
    → placed_entry test entry at ≡ written_entry entry at found
one_placed test entry at None e = cond-false _ _ _ e
one_placed test entry at (Some name) e = cond-true _ _ _ e

-- the rows of entries, told by the columns of their names
pub placed_are : (params : List (List ℕ)) (before entries : List Entry) → list_all is_plain_entry before ≡ true
    → list_all is_plain_entry entries ≡ true
    → placed_entries (brings params (before ++ entries)) entries (length params + length before) ≡ written_entries
    (known_behind params before) entries (length params + length before)
placed_are params before [] plain_before plain = refl
placed_are params before (entry ∷ entries) plain_before plain =
    let each = both_true (is_plain_entry entry) (list_all is_plain_entry entries) plain in
    let at = length params + length before in
    let one = one_placed (brings params (before ++ entry ∷ entries)) entry at (new_name (known_behind params before) entry)
    (brings_is params before entry entries plain_before each.0) in
    let more = placed_are params (before ++ entry ∷ []) entries
    (all_of_both before (entry ∷ []) plain_before (ap (λ (b : Bool). b && true) each.0)) each.1 in
    let next : length params + length (before ++ entry ∷ []) ≡ at + 1 = omega (arith, length-append before (entry ∷ [])) in
    let known = known_behind params before in
    let rest : placed_entries (brings params (before ++ entry ∷ entries)) entries (at + 1)
    ≡ written_entries (known_after known (new_name known entry)) entries (at + 1) =
    ap (λ (k : ℕ). placed_entries (brings params (before ++ entry ∷ entries)) entries k) (sym next)
    ∙ ap (λ (l : List Entry). placed_entries (brings params l) entries (length params + length (before ++ entry ∷ [])))
    (sym (append_assoc before (entry ∷ []) entries))
    ∙ more ∙ ap₂ (λ (known : List (List ℕ)) (k : ℕ). written_entries known entries k) (behind_one params before entry) next in
    ap₂ (λ (xs ys : List Written). xs ++ ys) one rest
