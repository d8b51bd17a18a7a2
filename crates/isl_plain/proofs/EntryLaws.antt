-- The entries of a tuple as rows.
use Rattle.std.proofs.Common.{◌≡◌, ◌∙◌, refl, sym, ap, subst, ◌↔◌, ℕ, ◌+◌, ℤ, pos, neg_ℤ, ◌+ℤ◌, ◌*ℤ◌, Bool, true, false, ◌||◌, List, []}
use Rattle.std.proofs.Common.{◌∷◌, ◌++◌, length, get_or, map, arith, Option, None, Some}
use Rattle.std.proofs.lemmas.Bool.{false≢true, cases_Bool, cond-true, cond-false}
use Rattle.std.specs.List.{list_all}
use Rattle.std.specs.Str.{bytes_eq}
use Rattle.std.specs.Prelude.{is_some}
use Rattle.std.proofs.lemmas.Slice.Eq.{bytes_eq-Decides}
use mathlib.Core.Logic.{inl, inr}
use Rattle.isl_math.proofs.Ring.{expand, linear}
use Rattle.isl_tree.specs.declared.tree.Entry.{Entry}
use Rattle.isl_tree.specs.declared.tree.Entry.TheVariants.{Plain, Named}
use Rattle.isl_tree.specs.declared.tree.Signed.{Signed'}
use Rattle.isl_tree.specs.declared.tree.Product.{Product', None', Some'}
use Rattle.isl_tree.specs.declared.tree.Factor.{Name, Inner', Floor', Ceil'}
use Rattle.isl_tree.specs.Environment.{Environment, value_in}
use Rattle.isl_tree.specs.Term.{Term, term_value}
use Rattle.isl_tree.specs.Literal.{is_among, lone_name, unless_known, new_name, known_after, with_new, with_coordinates, EntriesEqual}
use Rattle.isl_tree.specs.Literal.{entry_term}
use Rattle.isl_tree.specs.Known.{term_names, term_is_known, entry_is_known, entries_are_known, known_behind}
use Rattle.isl_tree.specs.Plain.{is_plain_entry, is_linear}
use Rattle.isl_piece.specs.Row.{HoldsValue}
use Rattle.isl_plain.specs.Linear.{Place, Amount, amounts_of, turned, multiplied_out, difference}
use Rattle.isl_plain.specs.Rows.{Written, written_entry, written_entries, amounts_in}
use Rattle.isl_plain.proofs.AmountLaws.{total}
use Rattle.isl_plain.proofs.TermLaws.{Agrees, term_at, both_true, total-append}
use Rattle.isl_plain.proofs.AgreeLaws.{StandsAt, value_here, value_further}

-- equal names are equal bytes
pub name_is : (m name : List ℕ) → bytes_eq m name ≡ true → m ≡ name
name_is m name e = (bytes_eq-Decides m name).0 e

-- what is brought in was not known
pub new_is_unknown : (known : List (List ℕ)) (found : Option (List ℕ)) (name : List ℕ) → unless_known known found ≡ Some name
    → is_among known name ≡ false
new_is_unknown known None name e = absurd (let bad : ⊥ = cc in bad)
new_is_unknown known (Some m) name e = elim (cases_Bool (is_among known m)) [
  | inl is ↦ absurd (let f : None ≡ Some name = sym (cond-true _ _ _ is) ∙ e in let bad : ⊥ = cc in bad)
  | inr is ↦ let f : Some m ≡ Some name =
      sym (cond-false _ _ _ is) ∙ e in let same : m ≡ name = cc in subst (λ (l : List ℕ). is_among known l ≡ false) same is
]

-- another name than a known one is another name
pub other_name : (known : List (List ℕ)) (m name : List ℕ) → is_among known m ≡ false → is_among known name ≡ true → bytes_eq m name ≡ false
other_name known m name unknown among = elim (cases_Bool (bytes_eq m name)) [
  | inl is ↦ absurd (false≢true (sym unknown ∙ subst (λ (l : List ℕ). is_among known l ≡ true) (sym (name_is m name is)) among))
  | inr is ↦ is
]

-- a plain entry's name is new
pub plain_is_new : (known : List (List ℕ)) (entry : Entry) (m : List ℕ) → is_plain_entry entry ≡ true → new_name known entry ≡ Some m
    → is_among known m ≡ false
plain_is_new known (Plain term) m plain e = new_is_unknown known (lone_name term) m e
plain_is_new known (Named n term) m plain e = absurd (false≢true plain)

pub among_more : (found : Option (List ℕ)) (known : List (List ℕ)) (name : List ℕ) → is_among known name ≡ true
    → is_among (known_after known found) name ≡ true
among_more None known name among = among
among_more (Some m) known name among = elim (cases_Bool (bytes_eq m name)) [
  | inl is ↦ ap (λ (b : Bool). b || is_among known name) is
  | inr is ↦ ap (λ (b : Bool). b || is_among known name) is ∙ among
]

pub among_behind : (entries : List Entry) (known : List (List ℕ)) (name : List ℕ) → is_among known name ≡ true
    → is_among (known_behind known entries) name ≡ true
among_behind [] known name among = among
among_behind (entry ∷ entries) known name among =
    among_behind entries (known_after known (new_name known entry)) name (among_more (new_name known entry) known name among)

-- a known name keeps its number behind plain entries
kept_value : (entries : List Entry) (ys : List ℤ) (known : List (List ℕ)) (env : Environment) (name : List ℕ)
    → list_all is_plain_entry entries ≡ true → is_among known name ≡ true
    → value_in (with_coordinates known entries ys env) name ≡ value_in env name
kept_value [] ys known env name plain among = refl
kept_value (entry ∷ entries) [] known env name plain among = refl
kept_value (entry ∷ entries) (y ∷ ys) known env name plain among =
    let each = both_true (is_plain_entry entry) (list_all is_plain_entry entries) plain in
    kept_value entries ys (known_after known (new_name known entry)) (with_new (new_name known entry) y env) name each.1
    (among_more (new_name known entry) known name among)
    ∙ one (new_name known entry) refl each.0
  where
    one : (found : Option (List ℕ)) → new_name known entry ≡ found → is_plain_entry entry ≡ true
        → value_in (with_new found y env) name ≡ value_in env name
    one None e plain = refl
    one (Some m) e plain = value_further m y env name (other_name known m name (plain_is_new known entry m plain e) among)

-- what a written row says of a point
abbrev pub HoldsWritten : ℕ → Place → List ℤ → Written → Type 0
HoldsWritten n place xs w = HoldsValue w.kind w.modulus (total xs (amounts_in n place w))

-- each written row holds at a point
abbrev pub AllWritten : ℕ → Place → List ℤ → List Written → Type 0
AllWritten n place xs [] = Unit {0}
AllWritten n place xs (w ∷ ws) = HoldsWritten n place xs w × AllWritten n place xs ws

pub all_written_append : (n : ℕ) (place : Place) (xs : List ℤ) (ws vs : List Written)
    → AllWritten n place xs (ws ++ vs) ↔ (AllWritten n place xs ws × AllWritten n place xs vs)
all_written_append n place xs [] vs = (λ h. (tt, h), λ h. h.1)
all_written_append n place xs (w ∷ ws) vs =
    let more = all_written_append n place xs ws vs in
    (λ h. ((h.0, (more.0 h.1).0), (more.0 h.1).1), λ h. (h.0.0, more.1 (h.0.1, h.1)))

pub no_name : (name : List ℕ) → None ≡ Some name → ⊥
no_name name e = cc

-- a name alone has the number of the name
pub lone_value : (term : Term) (name : List ℕ) (env : Environment) → lone_name term ≡ Some name → term_value term env ≡ value_in env name
lone_value [] name env e = absurd (no_name name e)
lone_value (Signed' true product ∷ parts) name env e = absurd (no_name name e)
lone_value (Signed' false (Product' (m ∷ ms) inner) ∷ parts) name env e = absurd (no_name name e)
lone_value (Signed' false (Product' [] None') ∷ parts) name env e = absurd (no_name name e)
lone_value (Signed' false (Product' [] (Some' (Inner' s row) ks)) ∷ parts) name env e = absurd (no_name name e)
lone_value (Signed' false (Product' [] (Some' (Floor' s row k) ks)) ∷ parts) name env e = absurd (no_name name e)
lone_value (Signed' false (Product' [] (Some' (Ceil' s row k) ks)) ∷ parts) name env e = absurd (no_name name e)
lone_value (Signed' false (Product' [] (Some' (Name m) (k ∷ ks))) ∷ parts) name env e = absurd (no_name name e)
lone_value (Signed' false (Product' [] (Some' (Name m) [])) ∷ (part ∷ parts)) name env e = absurd (no_name name e)
lone_value (Signed' false (Product' [] (Some' (Name m) [])) ∷ []) name env e =
    let same : m ≡ name = cc in by (value_in env m) (value_in env name) (ap (value_in env) same)
  where
    by : (v w : ℤ) → v ≡ w → pos 1 *ℤ v +ℤ pos 0 ≡ w
    by v w e = omega (arith, linear)

map-same : (ls : List Amount) → map (turned false) ls ≡ ls
map-same [] = refl
map-same (l ∷ ls) = ap (λ (r : List Amount). l ∷ r) (map-same ls)

-- what a term less its coordinate comes to
coordinate_at : (n : ℕ) (xs : List ℤ) (place : Place) (term : Term) (at : ℕ)
    → total xs (difference n place term [] (Some at)) ≡ total xs (amounts_of n place term) +ℤ
    (neg_ℤ (pos 1) *ℤ get_or xs at (pos 0) +ℤ pos 0)
coordinate_at n xs place term at =
    let g = map (turned false) (amounts_of n place term) in
    let all = total-append xs (g ++ []) ((at, neg_ℤ (pos 1)) ∷ []) in
    let sum = total-append xs g [] in
    let same = ap (total xs) (map-same (amounts_of n place term)) in
    omega (arith, linear)

module _ (n : ℕ) (xs : List ℤ) (place : Place) (env : Environment) (known : List (List ℕ)) (agrees : Agrees known n place env xs)
    (one : get_or xs n (pos 0) ≡ pos 1) where
  -- a term equals its coordinate exactly where its row is 0
  entry_row : (term : Term) (at : ℕ) (y : ℤ) → is_linear term ≡ true → list_all (is_among known) (term_names term) ≡ true
      → get_or xs at (pos 0) ≡ y
      → (term_value term env ≡ y) ↔ (total xs (difference n place (multiplied_out term) [] (Some at)) ≡ pos 0)
  entry_row term at y is_linear names stands =
      let value = term_at n place known env xs term agrees one is_linear names in
      let sum = coordinate_at n xs place (multiplied_out term) at in
      (λ h. by _ _ _ _ _ value sum stands h, λ h. back _ _ _ _ _ value sum stands h)
    where
      by : (v t s x y : ℤ) → v ≡ t → s ≡ t +ℤ (neg_ℤ (pos 1) *ℤ x +ℤ pos 0) → x ≡ y → v ≡ y → s ≡ pos 0
      by v t s x y e f g h = let f' = simp expand at f in omega (arith, linear)

      back : (v t s x y : ℤ) → v ≡ t → s ≡ t +ℤ (neg_ℤ (pos 1) *ℤ x +ℤ pos 0) → x ≡ y → s ≡ pos 0 → v ≡ y
      back v t s x y e f g h = let f' = simp expand at f in omega (arith, linear)

-- an entry that brings in a name has the name's number
named_entry : (known : List (List ℕ)) (entry : Entry) (name : List ℕ) (env : Environment) → is_plain_entry entry ≡ true
    → new_name known entry ≡ Some name → term_value (entry_term entry) env ≡ value_in env name
named_entry known (Named m term) name env plain e = absurd (false≢true plain)
named_entry known (Plain term) name env plain e = lone (lone_name term) refl e
  where
    lone : (found : Option (List ℕ)) → lone_name term ≡ found → unless_known known found ≡ Some name
        → term_value term env ≡ value_in env name
    lone None is e = absurd (no_name name e)
    lone (Some m) is e = elim (cases_Bool (is_among known m)) [
      | inl among ↦ absurd (no_name name (sym (cond-true _ _ _ among) ∙ e))
      | inr among ↦ let f : Some m ≡ Some name =
          sym (cond-false _ _ _ among) ∙ e in let same : m ≡ name = cc in lone_value term name env (is ∙ ap (λ (l : List ℕ). Some l) same)
    ]

-- a plain entry is a linear term, which knows the names before it where it brings in none
plain_linear : (entry : Entry) → is_plain_entry entry ≡ true → is_linear (entry_term entry) ≡ true
plain_linear (Plain term) plain = plain
plain_linear (Named m term) plain = absurd (false≢true plain)

entry_names : (known : List (List ℕ)) (entry : Entry) → is_plain_entry entry ≡ true → new_name known entry ≡ None
    → entry_is_known known entry ≡ true → list_all (is_among known) (term_names (entry_term entry)) ≡ true
entry_names known (Plain term) plain none is = sym (ap (λ (o : Option (List ℕ)). is_some o || term_is_known known term) none) ∙ is
entry_names known (Named m term) plain none is = absurd (false≢true plain)

among_itself : (name : List ℕ) (known : List (List ℕ)) → is_among (name ∷ known) name ≡ true
among_itself name known = ap (λ (b : Bool). b || is_among known name) ((bytes_eq-Decides name name).1 refl)

pub all_more : (p q : List ℕ → Bool) → ((x : List ℕ) → p x ≡ true → q x ≡ true) → (xs : List (List ℕ)) → list_all p xs ≡ true
    → list_all q xs ≡ true
all_more p q each [] h = refl
all_more p q each (x ∷ xs) h = let both = both_true (p x) (list_all p xs) h in rw (each x both.0) (all_more p q each xs both.1)

-- a name that an entry brings in has its coordinate's number
brought : (known : List (List ℕ)) (entry : Entry) (name : List ℕ) (entries : List Entry) (y : ℤ) (ys : List ℤ) (env : Environment)
    → list_all is_plain_entry entries ≡ true → value_in (with_coordinates (name ∷ known) entries ys ((name, y) ∷ env)) name ≡ y
brought known entry name entries y ys env plain =
    kept_value entries ys (name ∷ known) ((name, y) ∷ env) name plain (among_itself name known)
    ∙ value_here name y env name ((bytes_eq-Decides name name).1 refl)

module _ (n : ℕ) (xs : List ℤ) (place : Place) (env : Environment) (known : List (List ℕ)) (agrees : Agrees known n place env xs)
    (one : get_or xs n (pos 0) ≡ pos 1) where
  -- each entry equals its coordinate exactly where the entries' rows hold
  pub entries_hold : (entries : List Entry) (ys : List ℤ) (before : List (List ℕ)) (env0 : Environment) (at : ℕ)
      → list_all is_plain_entry entries ≡ true → entries_are_known before entries ≡ true →
      ((name : List ℕ) → is_among (known_behind before entries) name ≡ true → is_among known name ≡ true)
      → env ≡ with_coordinates before entries ys env0 → StandsAt xs at ys → length entries ≡ length ys
      → EntriesEqual entries ys env ↔ AllWritten n place xs (written_entries before entries at)
  entries_hold [] [] before env0 at plain are_known within is stands same = (λ h. h, λ h. h)
  entries_hold [] (y ∷ ys) before env0 at plain are_known within is stands same = absurd (omega arith)
  entries_hold (entry ∷ entries) [] before env0 at plain are_known within is stands same = absurd (omega arith)
  entries_hold (entry ∷ entries) (y ∷ ys) before env0 at plain are_known within is stands same =
      let each = both_true (is_plain_entry entry) (list_all is_plain_entry entries) plain in
      let names = both_true (entry_is_known before entry) (entries_are_known (known_after before (new_name before entry)) entries) are_known
      in
      let more = entries_hold entries ys (known_after before (new_name before entry)) (with_new (new_name before entry) y env0) (at + 1)
      each.1 names.1 within is stands.1 (omega arith) in
      step (new_name before entry) refl each.0 each.1 names.0 more
    where
      step : (found : Option (List ℕ)) → new_name before entry ≡ found → is_plain_entry entry ≡ true
          → list_all is_plain_entry entries ≡ true → entry_is_known before entry ≡ true
          → (EntriesEqual entries ys env ↔ AllWritten n place xs (written_entries (known_after before found) entries (at + 1)))
          → EntriesEqual (entry ∷ entries) (y ∷ ys) env ↔ AllWritten n place xs
          (written_entry entry at found ++ written_entries (known_after before found) entries (at + 1))
      step None e plain plains is_known more =
          let names = all_more (is_among before) (is_among known)
          (λ name among. within name (among_behind (entry ∷ entries) before name among)) (term_names (entry_term entry))
          (entry_names before entry plain e is_known) in
          let row = entry_row n xs place env known agrees one (entry_term entry) at y (plain_linear entry plain) names stands.0 in
          (λ h. (row.0 h.0, more.0 h.1), λ h. (row.1 h.0, more.1 h.1))
      step (Some name) e plain plains is_known more =
          let there = ap (λ (l : Environment). value_in l name) is ∙ ap
          (λ (found : Option (List ℕ)). value_in (with_coordinates (known_after before found) entries ys (with_new found y env0)) name) e ∙
          brought before entry name entries y ys env0 plains in
          (λ h. more.0 h.1, λ h. (named_entry before entry name env plain e ∙ there, more.1 h))
