-- Names stand for their columns' numbers, from the parameters through the entries of the tuples.
use Rattle.std.proofs.Common.{◌≡◌, ◌∙◌, sym, ap, ℕ, ◌+◌, ◌<◌, ◌≤◌, ℤ, pos, Bool, true, false, ◌||◌, List, [], ◌∷◌, length, get_or, arith}
use Rattle.std.proofs.Common.{Option, None, Some}
use Rattle.std.proofs.lemmas.Bool.{cases_Bool, cond-true, cond-false}
use Rattle.std.specs.Str.{bytes_eq}
use mathlib.Core.Logic.{inl, inr}
use Rattle.isl_tree.specs.declared.tree.Entry.{Entry}
use Rattle.isl_tree.specs.Environment.{Environment, value_in}
use Rattle.isl_tree.specs.Literal.{is_among, new_name, known_after, with_new, with_coordinates}
use Rattle.isl_tree.specs.Known.{known_behind}
use Rattle.isl_plain.proofs.Columns.{Columns, column_of, with_column, with_columns}
use Rattle.isl_plain.specs.Linear.{Place}
use Rattle.isl_plain.proofs.TermLaws.{Agrees}

-- these numbers stand in the point, one after the other from a place on
abbrev pub StandsAt : List ℤ → ℕ → List ℤ → Type 0
StandsAt xs first [] = Unit {0}
StandsAt xs first (y ∷ ys) = (get_or xs first (pos 0) ≡ y) × StandsAt xs (first + 1) ys

-- looking up a name that stands in front, and one that does not
pub value_here : (name : List ℕ) (z : ℤ) (env : Environment) (other : List ℕ) → bytes_eq name other ≡ true
    → value_in ((name, z) ∷ env) other ≡ z
unfolding value_in
value_here name z env other is = cond-true _ _ _ is

pub value_further : (name : List ℕ) (z : ℤ) (env : Environment) (other : List ℕ) → bytes_eq name other ≡ false
    → value_in ((name, z) ∷ env) other ≡ value_in env other
unfolding value_in
value_further name z env other is = cond-false _ _ _ is

pub column_here : (n : ℕ) (name : List ℕ) (at : ℕ) (columns : Columns) (other : List ℕ) → bytes_eq name other ≡ true
    → column_of n ((name, at) ∷ columns) other ≡ at
unfolding column_of
column_here n name at columns other is = cond-true _ _ _ is

pub column_further : (n : ℕ) (name : List ℕ) (at : ℕ) (columns : Columns) (other : List ℕ) → bytes_eq name other ≡ false
    → column_of n ((name, at) ∷ columns) other ≡ column_of n columns other
unfolding column_of
column_further n name at columns other is = cond-false _ _ _ is

-- a name that is another one's neighbour is among the others
pub among_further : (name : List ℕ) (known : List (List ℕ)) (other : List ℕ) → bytes_eq name other ≡ false
    → is_among (name ∷ known) other ≡ true → is_among known other ≡ true
among_further name known other is among = sym (ap (λ (b : Bool). b || is_among known other) is) ∙ among

module _ (n : ℕ) (xs : List ℤ) where
  -- one name more
  pub agrees_more : (known : List (List ℕ)) (columns : Columns) (env : Environment) (name : List ℕ) (at : ℕ) (y : ℤ)
      → Agrees known n (column_of n columns) env xs → at < n → get_or xs at (pos 0) ≡ y
      → Agrees (name ∷ known) n (column_of n ((name, at) ∷ columns)) ((name, y) ∷ env) xs
  agrees_more known columns env name at y agrees below stands = record {
    below = λ other among. elim (cases_Bool (bytes_eq name other)) [
      | inl is ↦ rw (column_here n name at columns other is) below
      | inr is ↦ rw (column_further n name at columns other is) (agrees.below other (among_further name known other is among))
    ];
    value = λ other among. elim (cases_Bool (bytes_eq name other)) [
      | inl is ↦ value_here name y env other is ∙ sym stands
          ∙ ap (λ (k : ℕ). get_or xs k (pos 0)) (sym (column_here n name at columns other is))
      | inr is ↦ value_further name y env other is ∙ agrees.value other (among_further name known other is among)
          ∙ ap (λ (k : ℕ). get_or xs k (pos 0)) (sym (column_further n name at columns other is))
    ];
  }

  with_entry : (found : Option (List ℕ)) (known : List (List ℕ)) (columns : Columns) (env : Environment) (at : ℕ) (y : ℤ)
      → Agrees known n (column_of n columns) env xs → at < n → get_or xs at (pos 0) ≡ y
      → Agrees (known_after known found) n (column_of n (with_column found at columns)) (with_new found y env) xs
  with_entry None known columns env at y agrees below stands = agrees
  with_entry (Some name) known columns env at y agrees below stands = agrees_more known columns env name at y agrees below stands

  -- behind entries that stand in the point
  pub agrees_entries : (entries : List Entry) (ys : List ℤ) (known : List (List ℕ)) (columns : Columns) (env : Environment) (first : ℕ)
      → Agrees known n (column_of n columns) env xs → StandsAt xs first ys → length entries ≡ length ys → first + length ys ≤ n
      → Agrees (known_behind known entries) n (column_of n (with_columns known entries first columns))
      (with_coordinates known entries ys env) xs
  agrees_entries [] [] known columns env first agrees stands same within = agrees
  agrees_entries [] (y ∷ ys) known columns env first agrees stands same within = absurd (omega arith)
  agrees_entries (entry ∷ entries) [] known columns env first agrees stands same within = absurd (omega arith)
  agrees_entries (entry ∷ entries) (y ∷ ys) known columns env first agrees stands same within =
      let more = with_entry (new_name known entry) known columns env first y agrees (omega arith) stands.0 in
      agrees_entries entries ys (known_after known (new_name known entry)) (with_column (new_name known entry) first columns)
      (with_new (new_name known entry) y env) (first + 1) more stands.1 (omega arith) (omega arith)

-- the same columns, told in another way
pub agrees_same : (known : List (List ℕ)) (n : ℕ) (place other : Place) (env : Environment) (xs : List ℤ)
    → ((name : List ℕ) → place name ≡ other name) → Agrees known n place env xs → Agrees known n other env xs
agrees_same known n place other env xs same agrees = record {
  below = λ name among. rw (← same name) (agrees.below name among);
  value = λ name among. agrees.value name among ∙ ap (λ (k : ℕ). get_or xs k (pos 0)) (same name);
}
