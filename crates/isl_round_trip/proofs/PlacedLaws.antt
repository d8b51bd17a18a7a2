-- The columns of printed names are those of the value.
use Rattle.std.proofs.Common.{◌≡◌, ◌≢◌, ◌+◌, ◌∙◌, ℕ, suc, Bool, false, cond, List, [], ◌∷◌, ◌++◌, Option, Some, None, length, map, ap, sym, subst, refl, arith}
use Rattle.std.specs.List.{position_from}
use Rattle.std.specs.Str.{bytes_eq}
use Rattle.std.proofs.lemmas.Bool.{false_from_ne_true}
use Rattle.std.proofs.lemmas.Slice.Eq.{bytes_eq-Decides}
use Rattle.isl_space.specs.Name.{Name}
use Rattle.isl_space.proofs.DistinctLaws.{Differs, Distinct, Apart}
use Rattle.isl_plain.specs.Linear.{Place}
use Rattle.isl_plain.specs.Places.{entry_from, first_some, or_else, place_among}
use Rattle.isl_round_trip.specs.Tree.{name_entry}
use Rattle.isl_round_trip.proofs.AddedLaws.{PlacedFrom}

-- the place of a name in a list whose first name has a place
abbrev place_from : ℕ → List Name → Name → Option ℕ
place_from first names name = position_from (λ m. bytes_eq m name) first names

differ_apart : (m n : Name) → m ≢ n → bytes_eq m n ≡ false
differ_apart m n other = false_from_ne_true (bytes_eq m n) (λ e. other ((bytes_eq-Decides m n).0 e))

-- the names are found from a place on
abbrev Found : (Name → Option ℕ) → ℕ → List Name → Type 0
Found find first [] = Unit {0}
Found find first (name ∷ names) = (find name ≡ Some first) × Found find (first + 1) names

-- a name in front that is another one
found_behind : (first at : ℕ) (other : Name) (others names : List Name) → Differs other names → Found (place_from (first + 1) others) at names → Found (place_from first (other ∷ others)) at names
found_behind first at other others [] differs found = tt
found_behind first at other others (name ∷ names) differs found = (
  ap (λ (b : Bool). cond b (Some first) (place_from (first + 1) others name)) (differ_apart other name differs.0) ∙ found.0,
  found_behind first (at + 1) other others names differs.1 found.1,
)

found : (first : ℕ) (names : List Name) → Distinct names → Found (place_from first names) first names
found first [] distinct = tt
found first (name ∷ names) distinct = (
  ap (λ (b : Bool). cond b (Some first) (place_from (first + 1) names name)) ((bytes_eq-Decides name name).1 refl),
  found_behind first (first + 1) name names names distinct.0 (found (first + 1) names distinct.1),
)

-- a name that differs from each of a list is not found there
missing : (first : ℕ) (names : List Name) (name : Name) → Apart names (name ∷ []) → place_from first names name ≡ None
missing first [] name apart = refl
missing first (other ∷ others) name apart =
    ap (λ (b : Bool). cond b (Some first) (place_from (first + 1) others name)) (differ_apart other name apart.0.0) ∙ missing (first + 1) others name apart.1

-- an entry that is a name alone has that name
names_of_entries : (first : ℕ) (names : List Name) (name : Name) → entry_from first (map name_entry names) name ≡ place_from first names name
names_of_entries first [] name = refl
names_of_entries first (other ∷ others) name = ap (λ o. cond (bytes_eq other name) (Some first) o) (names_of_entries (first + 1) others name)

-- ---- parameters, and then the names of the entries
module _ (params coordinates : List Name) (n : ℕ) where
  abbrev place : Place
  place = place_among params (map name_entry coordinates) n

  params_placed : (first : ℕ) (names : List Name) → Found (place_from 0 params) first names → PlacedFrom place first names
  params_placed first [] there = tt
  params_placed first (name ∷ names) there = (
    ap (λ o. or_else (first_some o (entry_from (length params) (map name_entry coordinates) name)) n) there.0,
    params_placed (first + 1) names there.1,
  )

  apart_head : (others : List Name) (name : Name) (names : List Name) → Apart others (name ∷ names) → Apart others (name ∷ [])
  apart_head [] name names apart = tt
  apart_head (other ∷ others) name names apart = ((apart.0.0, tt), apart_head others name names apart.1)

  apart_tail : (others : List Name) (name : Name) (names : List Name) → Apart others (name ∷ names) → Apart others names
  apart_tail [] name names apart = tt
  apart_tail (other ∷ others) name names apart = (apart.0.1, apart_tail others name names apart.1)

  coordinates_placed : (first : ℕ) (names : List Name) → Apart params names → Found (place_from (length params) coordinates) first names → PlacedFrom place first names
  coordinates_placed first [] apart there = tt
  coordinates_placed first (name ∷ names) apart there = (
    ap (λ o. or_else (first_some o (entry_from (length params) (map name_entry coordinates) name)) n) (missing 0 params name (apart_head params name names apart))
        ∙ ap (λ o. or_else o n) (names_of_entries (length params) coordinates name ∙ there.0),
    coordinates_placed (first + 1) names (apart_tail params name names apart) there.1,
  )

placed-append : (place : Place) (first : ℕ) (xs ys : List Name) → PlacedFrom place first xs → PlacedFrom place (first + length xs) ys → PlacedFrom place first (xs ++ ys)
placed-append place first [] ys left right = let same : first + 0 ≡ first = omega arith in subst (λ (k : ℕ). PlacedFrom place k ys) same right
placed-append place first (x ∷ xs) ys left right =
    let same : first + suc (length xs) ≡ first + 1 + length xs = omega arith in
    (left.0, placed-append place (first + 1) xs ys left.1 (subst (λ (k : ℕ). PlacedFrom place k ys) same right))

pub columns_placed : (params coordinates : List Name) (n : ℕ) → Distinct params → Distinct coordinates → Apart params coordinates
    → PlacedFrom (place_among params (map name_entry coordinates) n) 0 (params ++ coordinates)
columns_placed params coordinates n first second apart =
    let zero_first : 0 + length params ≡ length params = omega arith in
    placed-append (place_among params (map name_entry coordinates) n) 0 params coordinates
    (params_placed params coordinates n 0 params (found 0 params first))
    (subst (λ (k : ℕ). PlacedFrom (place_among params (map name_entry coordinates) n) k coordinates) (sym zero_first)
    (coordinates_placed params coordinates n (length params) coordinates apart (found (length params) coordinates second)))
