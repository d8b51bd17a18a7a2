-- The names of two operands, joined once more.
use Rattle.std.proofs.Common.{◌≡◌, ◌∙◌, ◌≤◌, ◌⊎◌, inl, inr, refl, sym, ap, subst, arith}
use Rattle.std.proofs.Common.{Bool, true, false, not, List, [], ◌∷◌, ◌++◌, length, get_or}
use Rattle.std.proofs.Common.{All, Contains, filter}
use Rattle.std.specs.Cmp.Lexicographic.{nat_list_eq_equiv}
use Rattle.std.specs.Str.{bytes_eq}
use Rattle.std.proofs.lemmas.List.Elements.{All-contains_itself, All-head, All-tail, Contains-append_left, filter-append, filter_passes}
use Rattle.std.proofs.lemmas.List.Folds.{list_any_at}
use Rattle.std.proofs.lemmas.Map.Made.{length-le_from_is_member, IsDistinct-from_AllPairs}
use Rattle.std.proofs.lemmas.Slice.Eq.{bytes_eq-Decides}
use Rattle.isl_space.specs.Name.{Name}
use Rattle.isl_space.specs.Names.{AreDistinct, is_among, joined}
use Rattle.isl_space.proofs.NamesLaws.{joins, joined_distinct, joined-nothing_new, Contains-is_among}

-- a name that stands in a list is among its names
is_among-Contains : (names : List Name) (n : Name) → Contains names n → is_among names n ≡ true
is_among-Contains names n there = list_any_at (bytes_eq n) names there.0 n there.1 ((bytes_eq-Decides n _).1 (sym there.2))

among_itself : (names : List Name) → All (λ n. is_among names n ≡ true) names
among_itself names i d within = is_among-Contains names (get_or names i d) (All-contains_itself names i d within)

-- ---- names in the other order
module _ (left right : List Name) (one : AreDistinct left) (two : AreDistinct right) where
  -- what is joined has the names of each
  first_there : (n : Name) → Contains left n → Contains (joined left right) n
  first_there n there = Contains-append_left left (filter (λ m. not (is_among left m)) right) n there

  second_there : (n : Name) → Contains right n → Contains (joined left right) n
  second_there n there =
      subst (Contains (joined left right)) there.2
      ((joins left right (joined left right) one two refl).second there.0 n there.1)

  turned_there : (n : Name) → Contains (joined right left) n → Contains (joined left right) n
  turned_there n there =
      subst (Contains (joined left right)) there.2
      (by (get_or (joined right left) there.0 n) ((joins right left (joined right left) two one refl).only there.0 n there.1))
    where
      by : (m : Name) → Contains right m ⊎ Contains left m → Contains (joined left right) m
      by m (inl here) = second_there m here
      by m (inr here) = first_there m here

  pub among_turned : (n : Name) → is_among (joined right left) n ≡ true → is_among (joined left right) n ≡ true
  among_turned n there = is_among-Contains (joined left right) n (turned_there n (Contains-is_among (joined right left) n there))

  -- as many names in the one order as in the other
  pub turned_fits : length (joined right left) ≤ length (joined left right)
  turned_fits =
      length-le_from_is_member nat_list_eq_equiv (joined right left) (joined left right)
      (IsDistinct-from_AllPairs bytes_eq-Decides (joined right left) (joined_distinct right left two one)) among_turned

  -- ---- nothing new
  pub joined-turned : joined (joined left right) (joined right left) ≡ joined left right
  joined-turned =
      joined-nothing_new (joined left right) (joined right left)
      (λ i d within. among_turned _ (among_itself (joined right left) i d within))

  pub joined-second : joined (joined left right) right ≡ joined left right
  joined-second =
      joined-nothing_new (joined left right) right
      (λ i d within. is_among-Contains (joined left right) (get_or right i d) (second_there _ (All-contains_itself right i d within)))

-- exactly as many
pub turned_long : (left right : List Name) → AreDistinct left → AreDistinct right → length (joined right left) ≡ length (joined left right)
turned_long left right one two =
    let more = turned_fits left right one two in
    let less = turned_fits right left two one in
    omega (arith, more, less)

filter_all : (test : Name → Bool) (names : List Name) → All (λ n. test n ≡ true) names → filter test names ≡ names
filter_all test [] all = refl
filter_all test (n ∷ names) all =
    let here : test n ≡ true = All-head (λ m. test m ≡ true) n names all in
    rw here (ap (λ l. n ∷ l) (filter_all test names (All-tail (λ m. test m ≡ true) n names all)))

filter_none : (test : Name → Bool) (names : List Name) → All (λ n. test n ≡ false) names → filter test names ≡ []
filter_none test [] all = refl
filter_none test (n ∷ names) all =
    let here : test n ≡ false = All-head (λ m. test m ≡ false) n names all in
    rw here (filter_none test names (All-tail (λ m. test m ≡ false) n names all))

pub joined-again : (left right : List Name) → joined left (joined left right) ≡ joined left right
joined-again left right =
    let is_new : Name → Bool = λ n. not (is_among left n) in
    ap (λ l. left ++ l)
    (filter-append is_new left (filter is_new right)
    ∙ (ap (λ l. l ++ filter is_new (filter is_new right)) (filter_none is_new left (λ i d within. ap not (among_itself left i d within)))
    ∙ filter_all is_new (filter is_new right) (filter_passes is_new right)))
