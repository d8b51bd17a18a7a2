-- Systems with two runs of their columns exchanged.
use Rattle.std.proofs.Common.{◌≡◌, ◌↔◌, sym, ap, ap₂, ◌∙◌, arith, subst, ℕ, ◌+◌, ◌-◌, ◌<◌, ◌≤◌, ℤ, pos, None, List, [], ◌++◌, All}
use Rattle.std.proofs.Common.{get_or, length, length-append}
use Rattle.std.specs.List.{range_with_len}
use Rattle.std.proofs.lemmas.List.{map-append}
use Rattle.std.proofs.lemmas.List.FromFn.{length-range_with_len}
use Rattle.isl_meter.specs.Gauge.{Gauge}
use Rattle.isl_space.specs.Form.{leaf}
use Rattle.isl_space.specs.SpaceForm.{map_of}
use Rattle.isl_piece.specs.declared.definition.Definition.{Definition}
use Rattle.isl_piece.specs.declared.system.System.{System}
use Rattle.isl_piece.specs.Formed.{IsSystemUpTo}
use Rattle.isl_piece.specs.Meet.{numbers_at}
use Rattle.isl_piece.specs.Placed.{ArePlacesAmong, placed_system, placing_of}
use Rattle.isl_piece.specs.System.{HoldsSystem, IsSystemWithin, free_columns}
use Rattle.isl_piece.proofs.MeetLaws.{placed_free, placed_points, placed_system_within, placed_up_to}
use Rattle.isl_piece.proofs.PlacedLaws.{numbers_at-longer}
use Rattle.isl_elim.specs.Sample.{IsNowhere}
use Rattle.isl_union.proofs.MovedLaws.{live_there}
use Rattle.isl_union.proofs.PlacesLaws.{columns_apart, numbers_behind}
use Rattle.isl_maps.specs.Places.{exchanged_places, exchanged_system}
use Rattle.isl_maps.proofs.InversePlaces.{exchanged, inverse_apart, length-inverse_places}

exchanged_apart : (before first second : ℕ) → ArePlacesAmong (before + (first + second)) (exchanged_places before first second)
exchanged_apart before first second = inverse_apart before (map_of (leaf None first) (leaf None second))

length-exchanged : (before first second : ℕ) → length (exchanged_places before first second) ≡ before + (first + second)
length-exchanged before first second = length-inverse_places before (map_of (leaf None first) (leaf None second))

module _ (before first second : ℕ) (s : System) (inside : before + (first + second) ≤ free_columns s) where
  abbrev run : ℕ
  run = before + (first + second)

  abbrev rest : ℕ
  rest = free_columns s - run

  abbrev places : List ℕ
  places = exchanged_places before first second ++ range_with_len run rest

  whole : run + rest ≡ free_columns s
  whole = omega arith

  pub exchange_among : ArePlacesAmong (free_columns s) places
  exchange_among = subst (λ n. ArePlacesAmong n places) whole (columns_apart run rest (exchanged_places before first second)
      (exchanged_apart before first second))

  long : length places ≡ free_columns s
  long =
      length-append (exchanged_places before first second) (range_with_len run rest)
      ∙ ap₂ (λ m n. m + n) (length-exchanged before first second) (length-range_with_len run rest) ∙ whole

  -- the numbers that are read from a point
  numbers : (a b c d : List ℤ) → length a ≡ before → length b ≡ first → length c ≡ second → length d ≡ rest
      → numbers_at places ((a ++ (c ++ b)) ++ d) ≡ (a ++ (b ++ c)) ++ d
  numbers a b c d la lb lc ld =
      let front = exchanged_places before first second in
      let point = (a ++ (c ++ b)) ++ d in
      let wide : length (a ++ (c ++ b)) ≡ run =
      length-append a (c ++ b) ∙ ap₂ (λ m n. m + n) la (length-append c b ∙ ap₂ (λ m n. m + n) lc lb) ∙ omega arith in
      let here : numbers_at front point ≡ a ++ (b ++ c) =
      numbers_at-longer front (a ++ (c ++ b)) d (rw wide (exchanged_apart before first second).inside)
      ∙ exchanged a c b before first second (sym la) (sym lb) (sym lc) in
      let there : numbers_at (range_with_len run rest) point ≡ d =
      ap (λ n. numbers_at (range_with_len n rest) point) (sym wide) ∙ numbers_behind (a ++ (c ++ b)) d rest (sym ld) in
      map-append (λ p. get_or point p (pos 0)) front (range_with_len run rest) ∙ ap₂ (λ xs ys. xs ++ ys) here there

  module _ (g : Gauge) (within : IsSystemWithin g s) where
    pub exchanged_points : (a b c d : List ℤ) → length a ≡ before → length b ≡ first → length c ≡ second → length d ≡ rest
        → HoldsSystem (exchanged_system before first second s) ((a ++ (c ++ b)) ++ d) ↔ HoldsSystem s ((a ++ (b ++ c)) ++ d)
    unfolding exchanged_system
    exchanged_points a b c d la lb lc ld =
        let point = (a ++ (c ++ b)) ++ d in
        let wide : length point ≡ free_columns s =
        length-append (a ++ (c ++ b)) d
        ∙ ap₂ (λ m n. m + n) (length-append a (c ++ b) ∙ ap₂ (λ m n. m + n) la (length-append c b ∙ ap₂ (λ m n. m + n) lc lb)) ld
        ∙ omega arith in
        subst (λ xs. HoldsSystem (placed_system (free_columns s) places s) point ↔ HoldsSystem s xs) (numbers a b c d la lb lc ld)
        (placed_points g (free_columns s) places s exchange_among within long point wide)

    pub exchanged_free : free_columns (exchanged_system before first second s) ≡ free_columns s
    unfolding exchanged_system
    exchanged_free = placed_free g (free_columns s) places s exchange_among within long

    pub exchanged_within : IsSystemWithin g (exchanged_system before first second s)
    unfolding exchanged_system
    exchanged_within = placed_system_within g (free_columns s) places s exchange_among within long

    -- where it has no point the system has none
    pub exchanged_live : IsNowhere (free_columns s) (HoldsSystem (exchanged_system before first second s))
        → IsNowhere (free_columns s) (HoldsSystem s)
    unfolding exchanged_system
    exchanged_live nowhere q l h = live_there g (free_columns s) places s exchange_among within long (λ none. none q l h) nowhere

pub exchanged_up_to : (before first second : ℕ) (s : System) (most : ℕ) → IsSystemUpTo most s
    → IsSystemUpTo most (exchanged_system before first second s)
unfolding exchanged_system
exchanged_up_to before first second s most h =
    let run = before + (first + second) in
    placed_up_to most (free_columns s) (exchanged_places before first second ++ range_with_len run (free_columns s - run)) s h

pub exchanged_plain : (before first second : ℕ) (s : System) → s.definitions ≡ []
    → (exchanged_system before first second s).definitions ≡ []
unfolding exchanged_system
exchanged_plain before first second s none =
    let run = before + (first + second) in
    ap (λ (ds : List Definition). (placing_of (free_columns s)
    (exchanged_places before first second ++ range_with_len run (free_columns s - run)) ds).definitions) none

-- ---- what the code makes
module _ (before first second : ℕ) (s : System) (inside : before + (first + second) ≤ free_columns s) (n end : ℕ) (ps : List ℕ)
    (n_is : n ≡ free_columns s) (end_is : end ≡ before + first + second)
    (ps_are : ps ≡ exchanged_places before first second ++ range_with_len end (n - end)) where
  at : ps ≡ places before first second s inside
  at =
      let same : end ≡ before + (first + second) = omega (arith, end_is) in
      let rest_is : n - end ≡ free_columns s - (before + (first + second)) = omega (arith, n_is, end_is) in
      ps_are ∙ ap₂ (λ i j. exchanged_places before first second ++ range_with_len i j) same rest_is

  pub exchanged_inside : All (λ p. p < n) ps
  exchanged_inside = rw (n_is, at) (exchange_among before first second s inside).inside

  pub exchanged_is : (made : System) → made ≡ placed_system n ps s → made ≡ exchanged_system before first second s
  unfolding exchanged_system
  exchanged_is made is = is ∙ ap₂ (λ i l. placed_system i l s) n_is at
