-- Where a name stands among the columns.
use Rattle.std.proofs.Common.{◌≡◌, ◌∙◌, refl, sym, ap, ℕ, ◌+◌, Bool, true, false, ◌||◌, List, [], ◌∷◌, ◌++◌, length, arith, Option, None}
use Rattle.std.proofs.Common.{Some, map, cond}
use Rattle.std.proofs.lemmas.List.{length-map}
use Rattle.std.specs.Prelude.{is_some}
use Rattle.std.specs.Option.{option_map}
use Rattle.std.specs.List.{position_from, list_all}
use Rattle.std.specs.Str.{bytes_eq}
use Rattle.std.proofs.lemmas.Bool.{false≢true, cases_Bool, cond-true, cond-false}
use Rattle.std.proofs.lemmas.Slice.Eq.{bytes_eq-Decides}
use mathlib.Core.Logic.{inl, inr}
use Rattle.isl_tree.specs.declared.tree.Entry.{Entry}
use Rattle.isl_tree.specs.declared.tree.Entry.TheVariants.{Plain, Named}
use Rattle.isl_tree.specs.Literal.{is_among, lone_name, unless_known, new_name, known_after}
use Rattle.isl_tree.specs.Known.{known_behind}
use Rattle.isl_tree.specs.Plain.{is_plain_entry}
use Rattle.isl_plain.proofs.Columns.{Columns, column_of, columns_from, with_column, with_columns}
use Rattle.isl_plain.specs.Places.{entry_name, is_name, entry_from, param_from, first_some, place_of, or_else}
use Rattle.isl_plain.proofs.TermLaws.{both_true}
use Rattle.isl_plain.proofs.AgreeLaws.{column_here, column_further}
use Rattle.isl_plain.proofs.EntryLaws.{name_is, no_name, plain_is_new, other_name, among_more}

-- a place is counted from the first column
pub from_shifted : {A : Type 0} (test : A → Bool) (i k : ℕ) (xs : List A)
    → position_from test (i + k) xs ≡ option_map (λ j. j + k) (position_from test i xs)
from_shifted test i k [] = refl
from_shifted test i k (x ∷ xs) = elim (cases_Bool (test x)) [
  | inl is ↦ cond-true _ _ _ is ∙ ap (option_map (λ j. j + k)) (sym (cond-true _ _ _ is))
  | inr is ↦
      let next : i + k + 1 ≡ i + 1 + k = omega arith in
      cond-false _ _ _ is ∙ ap (λ (n : ℕ). position_from test n xs) next ∙ from_shifted test (i + 1) k xs
      ∙ ap (option_map (λ j. j + k)) (sym (cond-false _ _ _ is))
]

-- the columns of the parameters
pub param_column : (n : ℕ) (names : List (List ℕ)) (first : ℕ) (name : List ℕ)
    → column_of n (columns_from first names) name ≡ or_else (param_from first names name) n
unfolding column_of
param_column n [] first name = refl
param_column n (m ∷ names) first name = elim (cases_Bool (bytes_eq m name)) [
  | inl is ↦ cond-true _ _ _ is ∙ ap (λ (o : Option ℕ). or_else o n) (sym (cond-true _ _ _ is))
  | inr is ↦ cond-false _ _ _ is ∙ param_column n names (first + 1) name ∙ ap (λ (o : Option ℕ). or_else o n) (sym (cond-false _ _ _ is))
]

pub param_among : (names : List (List ℕ)) (first : ℕ) (name : List ℕ) → is_among names name ≡ is_some (param_from first names name)
param_among [] first name = refl
param_among (m ∷ names) first name = elim (cases_Bool (bytes_eq m name)) [
  | inl is ↦ ap (λ (b : Bool). b || is_among names name) is ∙ ap (λ (o : Option ℕ). is_some o) (sym (cond-true _ _ _ is))
  | inr is ↦ ap (λ (b : Bool). b || is_among names name) is ∙ param_among names (first + 1) name
      ∙ ap (λ (o : Option ℕ). is_some o) (sym (cond-false _ _ _ is))
]

-- a known name keeps its column behind plain entries
kept_column : (n : ℕ) (entries : List Entry) (known : List (List ℕ)) (first : ℕ) (columns : Columns) (name : List ℕ)
    → list_all is_plain_entry entries ≡ true → is_among known name ≡ true
    → column_of n (with_columns known entries first columns) name ≡ column_of n columns name
kept_column n [] known first columns name plain among = refl
kept_column n (entry ∷ entries) known first columns name plain among =
    let each = both_true (is_plain_entry entry) (list_all is_plain_entry entries) plain in
    kept_column n entries (known_after known (new_name known entry)) (first + 1) (with_column (new_name known entry) first columns) name
    each.1 (among_more (new_name known entry) known name among)
    ∙ one (new_name known entry) refl each.0
  where
    one : (found : Option (List ℕ)) → new_name known entry ≡ found → is_plain_entry entry ≡ true
        → column_of n (with_column found first columns) name ≡ column_of n columns name
    one None e plain = refl
    one (Some m) e plain = column_further n m first columns name (other_name known m name (plain_is_new known entry m plain e) among)

-- an entry that consists of a name that is not known brings it in
entry_brings : (known : List (List ℕ)) (entry : Entry) (name : List ℕ) → is_plain_entry entry ≡ true → is_among known name ≡ false
    → is_name (entry_name entry) name ≡ true → new_name known entry ≡ Some name
entry_brings known (Named m term) name plain unknown is = absurd (false≢true plain)
entry_brings known (Plain term) name plain unknown is = go (lone_name term) refl is
  where
    go : (found : Option (List ℕ)) → lone_name term ≡ found → is_name found name ≡ true → unless_known known (lone_name term) ≡ Some name
    go None e is = absurd (false≢true is)
    go (Some m) e is = ap (unless_known known) (e ∙ ap (λ (l : List ℕ). Some l) (name_is m name is)) ∙ cond-false _ _ _ unknown

-- an entry that does not consist of a name does not bring it in
entry_other : (known : List (List ℕ)) (entry : Entry) (m name : List ℕ) → is_plain_entry entry ≡ true → new_name known entry ≡ Some m
    → is_name (entry_name entry) name ≡ false → bytes_eq m name ≡ false
entry_other known (Named l term) m name plain e is = absurd (false≢true plain)
entry_other known (Plain term) m name plain e is = go (lone_name term) refl
  where
    go : (found : Option (List ℕ)) → lone_name term ≡ found → bytes_eq m name ≡ false
    go None f = absurd (no_name m (sym (ap (unless_known known) f) ∙ e))
    go (Some l) f = elim (cases_Bool (is_among known l)) [
      | inl among ↦ absurd (no_name m (sym (cond-true _ _ _ among) ∙ sym (ap (unless_known known) f) ∙ e))
      | inr among ↦
          let same : Some l ≡ Some m = sym (cond-false _ _ _ among) ∙ sym (ap (unless_known known) f) ∙ e in
          let is' : is_name (Some m) name ≡ false = sym (ap (λ (o : Option (List ℕ)). is_name o name) (f ∙ same)) ∙ is in is'
    ]

not_among : (m : List ℕ) (known : List (List ℕ)) (name : List ℕ) → bytes_eq m name ≡ false → is_among known name ≡ false
    → is_among (m ∷ known) name ≡ false
not_among m known name other unknown = ap (λ (b : Bool). b || is_among known name) other ∙ unknown

among_first : (m : List ℕ) (known : List (List ℕ)) (name : List ℕ) → bytes_eq m name ≡ true → is_among (m ∷ known) name ≡ true
among_first m known name is = ap (λ (b : Bool). b || is_among known name) is

among_after_all : (entries : List Entry) (known : List (List ℕ)) (name : List ℕ) → is_among known name ≡ true
    → is_among (known_behind known entries) name ≡ true
among_after_all [] known name among = among
among_after_all (entry ∷ entries) known name among =
    among_after_all entries (known_after known (new_name known entry)) name (among_more (new_name known entry) known name among)

-- the column of a name that is not known before the entries, and whether it is known behind them
pub entry_column : (n : ℕ) (entries : List Entry) (known : List (List ℕ)) (first : ℕ) (columns : Columns) (name : List ℕ)
    → list_all is_plain_entry entries ≡ true → is_among known name ≡ false
    → (column_of n (with_columns known entries first columns) name ≡ or_else (entry_from first entries name) (column_of n columns name)) ×
    (is_among (known_behind known entries) name ≡ is_some (entry_from first entries name))
entry_column n [] known first columns name plain unknown = (refl, unknown)
entry_column n (entry ∷ entries) known first columns name plain unknown =
    let each = both_true (is_plain_entry entry) (list_all is_plain_entry entries) plain in
    elim (cases_Bool (is_name (entry_name entry) name)) [
      | inl is ↦ here is each.0 each.1 (entry_brings known entry name each.0 unknown is)
      | inr is ↦ further is each.0 each.1 (new_name known entry) refl
          (λ kept. entry_column n entries (known_after known (new_name known entry)) (first + 1)
          (with_column (new_name known entry) first columns) name each.1 kept)
    ]
  where
    here : is_name (entry_name entry) name ≡ true → is_plain_entry entry ≡ true → list_all is_plain_entry entries ≡ true
        → new_name known entry ≡ Some name
        → (column_of n (with_columns known (entry ∷ entries) first columns) name ≡ or_else (entry_from first (entry ∷ entries) name)
        (column_of n columns name)) × (is_among (known_behind known (entry ∷ entries)) name ≡ is_some
        (entry_from first (entry ∷ entries) name))
    here is plain plains e =
        let itself : bytes_eq name name ≡ true = (bytes_eq-Decides name name).1 refl in
        let found : entry_from first (entry ∷ entries) name ≡ Some first = cond-true _ _ _ is in (
          ap (λ (o : Option (List ℕ)). column_of n (with_columns (known_after known o) entries (first + 1) (with_column o first columns))
              name) e
              ∙ kept_column n entries (name ∷ known) (first + 1) ((name, first) ∷ columns) name plains (among_first name known name itself)
              ∙ column_here n name first columns name itself ∙ ap (λ (o : Option ℕ). or_else o (column_of n columns name)) (sym found),
          ap (λ (o : Option (List ℕ)). is_among (known_behind (known_after known o) entries) name) e
              ∙ among_after_all entries (name ∷ known) name (among_first name known name itself)
              ∙ ap (λ (o : Option ℕ). is_some o) (sym found),
        )

    further : is_name (entry_name entry) name ≡ false → is_plain_entry entry ≡ true → list_all is_plain_entry entries ≡ true
        → (o : Option (List ℕ)) → new_name known entry ≡ o
        → (is_among (known_after known (new_name known entry)) name ≡ false
        → (column_of n (with_columns (known_after known (new_name known entry)) entries (first + 1)
        (with_column (new_name known entry) first columns)) name ≡ or_else (entry_from (first + 1) entries name)
        (column_of n (with_column (new_name known entry) first columns) name))
        × (is_among (known_behind (known_after known (new_name known entry)) entries) name ≡ is_some (entry_from (first + 1) entries name)))
        → (column_of n (with_columns known (entry ∷ entries) first columns) name ≡ or_else (entry_from first (entry ∷ entries) name)
        (column_of n columns name)) × (is_among (known_behind known (entry ∷ entries)) name ≡ is_some
        (entry_from first (entry ∷ entries) name))
    further is plain plains o e more =
        let found : entry_from first (entry ∷ entries) name ≡ entry_from (first + 1) entries name = cond-false _ _ _ is in
        let rest = more (ap (λ (q : Option (List ℕ)). is_among (known_after known q) name) e ∙ still o e) in (
          rest.0
              ∙ ap (λ (q : Option (List ℕ)). or_else (entry_from (first + 1) entries name) (column_of n (with_column q first columns) name))
              e
              ∙ ap (or_else (entry_from (first + 1) entries name)) (same o e)
              ∙ ap (λ (q : Option ℕ). or_else q (column_of n columns name)) (sym found),
          rest.1 ∙ ap (λ (q : Option ℕ). is_some q) (sym found),
        )
      where
        still : (o : Option (List ℕ)) → new_name known entry ≡ o → is_among (known_after known o) name ≡ false
        still None e = unknown
        still (Some m) e = not_among m known name (entry_other known entry m name plain e is) unknown

        same : (o : Option (List ℕ)) → new_name known entry ≡ o → column_of n (with_column o first columns) name ≡ column_of n columns name
        same None e = refl
        same (Some m) e = column_further n m first columns name (entry_other known entry m name plain e is)

-- the column of a name of a piece, and whether the name is known
pub place_is : (n : ℕ) (params : List (List ℕ)) (entries : List Entry) (name : List ℕ) → list_all is_plain_entry entries ≡ true
    → (column_of n (with_columns params entries (length params) (columns_from 0 params)) name ≡ or_else (place_of params entries name) n) ×
    (is_among (known_behind params entries) name ≡ is_some (place_of params entries name))
place_is n params entries name plain = go (param_from 0 params name) refl
  where
    go : (o : Option ℕ) → param_from 0 params name ≡ o
        → (column_of n (with_columns params entries (length params) (columns_from 0 params)) name ≡ or_else
        (first_some (param_from 0 params name) (entry_from (length params) entries name)) n)
        × (is_among (known_behind params entries) name ≡ is_some
        (first_some (param_from 0 params name) (entry_from (length params) entries name)))
    go (Some at) e =
        let among : is_among params name ≡ true = param_among params 0 name ∙ ap (λ (o : Option ℕ). is_some o) e in (
          kept_column n entries params (length params) (columns_from 0 params) name plain among ∙ param_column n params 0 name
              ∙ ap (λ (o : Option ℕ). or_else o n) e
              ∙ ap (λ (o : Option ℕ). or_else (first_some o (entry_from (length params) entries name)) n) (sym e),
          among_after_all entries params name among
              ∙ ap (λ (o : Option ℕ). is_some (first_some o (entry_from (length params) entries name))) (sym e),
        )
    go None e =
        let unknown : is_among params name ≡ false = param_among params 0 name ∙ ap (λ (o : Option ℕ). is_some o) e in
        let rest = entry_column n entries params (length params) (columns_from 0 params) name plain unknown in (
          rest.0
              ∙ ap (or_else (entry_from (length params) entries name)) (param_column n params 0 name ∙ ap (λ (o : Option ℕ). or_else o n) e)
              ∙ ap (λ (o : Option ℕ). or_else (first_some o (entry_from (length params) entries name)) n) (sym e),
          rest.1 ∙ ap (λ (o : Option ℕ). is_some (first_some o (entry_from (length params) entries name))) (sym e),
        )

-- the first entry of two lists, one behind the other
pub from_append : {A : Type 0} (test : A → Bool) (i : ℕ) (xs ys : List A)
    → position_from test i (xs ++ ys) ≡ first_some (position_from test i xs) (position_from test (i + length xs) ys)
from_append test i [] ys = ap (λ (k : ℕ). position_from test k ys) (let e : i ≡ i + 0 = omega arith in e)
from_append test i (x ∷ xs) ys = elim (cases_Bool (test x)) [
  | inl is ↦ cond-true _ _ _ is
      ∙ ap (λ (o : Option ℕ). first_some o (position_from test (i + length (x ∷ xs)) ys)) (sym (cond-true _ _ _ is))
  | inr is ↦
      let next : i + 1 + length xs ≡ i + length (x ∷ xs) = omega arith in
      cond-false _ _ _ is ∙ from_append test (i + 1) xs ys
      ∙ ap (λ (k : ℕ). first_some (position_from test (i + 1) xs) (position_from test k ys)) next
      ∙ ap (λ (o : Option ℕ). first_some o (position_from test (i + length (x ∷ xs)) ys)) (sym (cond-false _ _ _ is))
]

pub from_zero : {A : Type 0} (test : A → Bool) (k : ℕ) (xs : List A)
    → position_from test k xs ≡ option_map (λ j. j + k) (position_from test 0 xs)
from_zero test k xs = ap (λ (n : ℕ). position_from test n xs) (let e : k ≡ 0 + k = omega arith in e) ∙ from_shifted test 0 k xs

-- the place of a name, as it is found: among the parameters, or else among the entries
pub place-param : (params : List (List ℕ)) (entries : List Entry) (name : List ℕ) (at : ℕ) → Some at ≡ param_from 0 params name
    → Some at ≡ place_of params entries name
place-param params entries name at e = ap (λ (o : Option ℕ). first_some o (entry_from (length params) entries name)) e

place-found : (params : List (List ℕ)) (entries : List Entry) (name : List ℕ) (found : Option ℕ) → None ≡ param_from 0 params name
    → found ≡ entry_from 0 entries name → option_map (λ j. j + length params) found ≡ place_of params entries name
place-found params entries name found none e =
    ap (option_map (λ j. j + length params)) e ∙ sym (from_zero (λ entry. is_name (entry_name entry) name) (length params) entries)
    ∙ ap (λ (o : Option ℕ). first_some o (entry_from (length params) entries name)) none

pub place-entry : (params : List (List ℕ)) (entries : List Entry) (name : List ℕ) (at : ℕ) → None ≡ param_from 0 params name
    → Some at ≡ entry_from 0 entries name → Some (at + length params) ≡ place_of params entries name
place-entry params entries name at none e = place-found params entries name (Some at) none e

pub place-none : (params : List (List ℕ)) (entries : List Entry) (name : List ℕ) → None ≡ param_from 0 params name
    → None ≡ entry_from 0 entries name → None ≡ place_of params entries name
place-none params entries name none e = place-found params entries name None none e

pub ruleset places = (place-param, place-entry, place-none, length-map)

-- entries that are handed over by reference
pub from_mapped : {A B : Type 0} (test : B → Bool) (f : A → B) (i : ℕ) (xs : List A)
    → position_from test i (map f xs) ≡ position_from (λ x. test (f x)) i xs
from_mapped test f i [] = refl
from_mapped test f i (x ∷ xs) = ap (λ (o : Option ℕ). cond (test (f x)) (Some i) o) (from_mapped test f (i + 1) xs)

pub ruleset widths = (length-map)
