-- Systems over more columns.
use Rattle.std.proofs.Common.{◌≡◌, ◌≢◌, ◌↔◌, ◌⊎◌, inl, inr, sym, ap, ap₂, ◌∙◌, subst, arith, ℕ, ◌+◌, ◌-◌, ◌<◌, ◌≤◌, ℤ, pos, List, []}
use Rattle.std.proofs.Common.{◌∷◌, ◌++◌, zero, suc, take, All, append_assoc, length, length-append, get_or}
use Rattle.std.specs.List.{range_with_len}
use Rattle.std.proofs.lemmas.Bool.{cases_lt}
use Rattle.std.proofs.lemmas.List.{append-nil, get_or_append_left, get_or-append-add, map-append, take_all}
use Rattle.std.proofs.lemmas.List.Elements.{All-append}
use Rattle.std.proofs.lemmas.List.FromFn.{length-range_with_len, get_or-range_with_len}
use Rattle.isl_meter.specs.Gauge.{Gauge}
use Rattle.isl_piece.specs.declared.definition.Definition.{Definition}
use Rattle.isl_piece.specs.declared.system.System.{System}
use Rattle.isl_piece.specs.Meet.{numbers_at, IsPlaced}
use Rattle.isl_piece.specs.Placed.{ArePlacesAmong, placed_system, placing_of}
use Rattle.isl_piece.specs.System.{HoldsSystem, IsSystemWithin, free_columns}
use Rattle.isl_piece.proofs.PlacedLaws.{numbers_at-first, numbers_at-longer}
use Rattle.isl_piece.proofs.MeetLaws.{placed_points, placed_system_within, placing_more, IsPlaced-own, IsPlaced-start}
use Rattle.isl_elim.proofs.RangeLaws.{range_below}
use Rattle.isl_union.proofs.PlacesLaws.{numbers_behind}
use Rattle.isl_images.specs.declared.shift.Shift.{Shift}
use Rattle.isl_images.specs.Shift.{shifted_places, IsOfBoth, IsShift, IsShifted}

-- ---- the places
module _ (free : ℕ) (shift : Shift) (is : IsShift free shift) where
  abbrev first : List ℕ
  first = range_with_len 0 shift.stay

  abbrev rest : List ℕ
  rest = range_with_len shift.start (free - shift.stay)

  first_long : length first ≡ shift.stay
  first_long = length-range_with_len 0 shift.stay

  rest_long : length rest ≡ free - shift.stay
  rest_long = length-range_with_len shift.start (free - shift.stay)

  pub places_long : length (shifted_places free shift) ≡ free
  places_long =
      let both = length-append first rest in
      let a = first_long in
      let b = rest_long in
      let s = is.some in
      omega (arith, both, a, b, s)

  places_apart : (i j d : ℕ) → i < j → j < length (first ++ rest) → get_or (first ++ rest) i d ≢ get_or (first ++ rest) j d
  places_apart i j d before within =
      by before (rw (length-append first rest) at within) (cases_lt i (length first)) (cases_lt j (length first))
    where
      front : (k : ℕ) → k < length first → get_or (first ++ rest) k d ≡ k
      front k l =
          let a = first_long in
          get_or_append_left first rest d k l ∙ get_or-range_with_len 0 shift.stay k d (omega (arith, a, l)) ∙ omega arith

      behind : (k : ℕ) → length first ≤ k → k < length first + length rest → get_or (first ++ rest) k d ≡ shift.start + (k - length first)
      behind k h l =
          let again : length first + (k - length first) ≡ k = omega (arith, h) in
          let b = rest_long in
          ap (λ m. get_or (first ++ rest) m d) (sym again) ∙ get_or-append-add first rest (k - length first) d
          ∙ get_or-range_with_len shift.start (free - shift.stay) (k - length first) d (omega (arith, h, l, b))

      by : i < j → j < length first + length rest → (i < length first) ⊎ (length first ≤ i) → (j < length first) ⊎ (length first ≤ j)
          → get_or (first ++ rest) i d ≢ get_or (first ++ rest) j d
      by before within (inl p) (inl q) e = let a = front i p in let b = front j q in omega (arith, a, b, e, before)
      by before within (inl p) (inr q) e =
          let a = front i p in
          let b = behind j q within in
          let c = first_long in
          let l = is.later in
          omega (arith, a, b, c, e, p, q, l)
      by before within (inr p) (inl q) e = absurd (omega (arith, p, q, before))
      by before within (inr p) (inr q) e =
          let a = behind i p (omega (arith, before, within)) in
          let b = behind j q within in
          omega (arith, a, b, e, before, p, q)

  pub places_are : ArePlacesAmong shift.columns (shifted_places free shift)
  places_are = record {
    inside = All-append (λ p. p < shift.columns) first rest
        (range_below 0 shift.stay shift.columns (let a = is.later in let b = is.inside in omega (arith, a, b)))
        (range_below shift.start (free - shift.stay) shift.columns is.inside);
    apart = places_apart;
  }

-- ---- the numbers at the places
module _ (front between back behind : List ℤ) where
  abbrev whole : List ℤ
  whole = front ++ (between ++ (back ++ behind))

  numbers_first : (n : ℕ) → length front ≡ n → numbers_at (range_with_len 0 n) whole ≡ front
  numbers_first n long = ap (λ k. numbers_at (range_with_len 0 k) whole) (sym long) ∙ numbers_at-first front (between ++ (back ++ behind))

  numbers_rest : (start n : ℕ) → length front + length between ≡ start → length back ≡ n
      → numbers_at (range_with_len start n) whole ≡ back
  numbers_rest start n at long =
      let before : length (front ++ between) ≡ start = length-append front between ∙ at in
      let all = length-append (front ++ between) back in
      ap (numbers_at (range_with_len start n)) (sym (append_assoc front between (back ++ behind))
      ∙ sym (append_assoc (front ++ between) back behind))
      ∙ numbers_at-longer (range_with_len start n) ((front ++ between) ++ back) behind
      (range_below start n (length ((front ++ between) ++ back)) (omega (arith, before, all, long)))
      ∙ ap (λ k. numbers_at (range_with_len k n) ((front ++ between) ++ back)) (sym before)
      ∙ numbers_behind (front ++ between) back n (sym long)

  pub numbers_shifted : (free : ℕ) (shift : Shift) → length front ≡ shift.stay → length front + length between ≡ shift.start
      → length front + length back ≡ free → numbers_at (shifted_places free shift) whole ≡ front ++ back
  numbers_shifted free shift stay start long =
      map-append (λ p. get_or whole p (pos 0)) (range_with_len 0 shift.stay) (range_with_len shift.start (free - shift.stay))
      ∙ ap₂ (λ xs ys. xs ++ ys) (numbers_first shift.stay stay)
      (numbers_rest shift.start (free - shift.stay) start (omega (arith, stay, long)))

-- ---- the system at the places
placing_placed : (columns : ℕ) (places : List ℕ) (definitions : List Definition) → All (λ p. p < columns) places → (i : ℕ)
    → i ≤ length definitions → IsPlaced columns (placing_of columns places (take i definitions))
placing_placed columns places definitions inside zero low = IsPlaced-start columns places inside
placing_placed columns places [] inside (suc i) low = absurd (omega arith)
placing_placed columns places (d ∷ definitions) inside (suc i) low =
    let more = placing_more columns places (d ∷ definitions) i d (omega arith) in
    let next : i + 1 ≡ suc i = omega arith in
    subst (λ (n : ℕ). IsPlaced columns (placing_of columns places (take n (d ∷ definitions)))) next
    (rw more (IsPlaced-own columns (placing_of columns places (take i (d ∷ definitions))) (get_or (d ∷ definitions) i d)
    (placing_placed columns places (d ∷ definitions) inside i (omega arith))))

placing_columns : (columns : ℕ) (places : List ℕ) (s : System) → All (λ p. p < columns) places
    → free_columns (placed_system columns places s) ≡ columns
placing_columns columns places s inside =
    let n = length s.definitions in
    let whole = subst (λ ds. IsPlaced columns (placing_of columns places ds)) (take_all n s.definitions (omega arith))
    (placing_placed columns places s.definitions inside n (omega arith)) in
    let c = whole.columns in
    omega (arith, c)

placed_plain : (columns : ℕ) (places : List ℕ) (s : System) → s.definitions ≡ [] → (placed_system columns places s).definitions ≡ []
placed_plain columns places s none = ap (λ (ds : List Definition). (placing_of columns places ds).definitions) none

pub shifted_columns : (s : System) (shift : Shift) (places : List ℕ) (made : System) → IsShift (free_columns s) shift
    → places ≡ shifted_places (free_columns s) shift → made ≡ placed_system shift.columns places s → free_columns made ≡ shift.columns
shifted_columns s shift places made is at exact =
    rw (exact, at) (placing_columns shift.columns (shifted_places (free_columns s) shift) s (places_are (free_columns s) shift is).inside)

pub system_shifted : (g : Gauge) (s : System) (shift : Shift) (places : List ℕ) (made : System) → IsShift (free_columns s) shift
    → IsSystemWithin g s → places ≡ shifted_places (free_columns s) shift → made ≡ placed_system shift.columns places s
    → IsShifted g s shift made
system_shifted g s shift places made is within at exact =
    let free = free_columns s in
    let all = shifted_places free shift in
    let are = places_are free shift is in
    let long = places_long free shift is in
    rw (exact, at) (record {
      points = λ front between back behind stay start back_long whole_long.
          let a = length-append front (between ++ (back ++ behind)) in
          let b = length-append between (back ++ behind) in
          let c = length-append back behind in
          subst (λ xs. HoldsSystem (placed_system shift.columns all s) (front ++ (between ++ (back ++ behind))) ↔ HoldsSystem s xs)
          (numbers_shifted front between back behind free shift stay start back_long)
          (placed_points g shift.columns all s are within long (front ++ (between ++ (back ++ behind)))
          (omega (arith, a, b, c, whole_long)));
      within = placed_system_within g shift.columns all s are within long;
      definitions = placed_plain shift.columns all s;
    })

-- ---- the system of two
module _ (g : Gauge) (first second : System) (parameters from : ℕ) where
  abbrev columns : ℕ
  columns = free_columns second + from

  pub both_made : (own other made : System) → IsShifted g first (record { columns = columns; stay = parameters; start = parameters }) own
      → IsShifted g second (record { columns = columns; stay = parameters; start = parameters + from }) other
      → free_columns own ≡ columns
      → ((point : List ℤ) → length point ≡ free_columns own → HoldsSystem made point ↔ (HoldsSystem own point × HoldsSystem other point))
      → IsSystemWithin g made → free_columns made ≡ free_columns own
      → (own.definitions ≡ other.definitions → made.definitions ≡ own.definitions) → IsOfBoth g first second parameters from made
  both_made own other made p q p_columns both within free plain = record {
    points = λ v x y z lv lx one two.
        let a = length-append x y in
        let b = length-append y z in
        let c = length-append v (x ++ (y ++ z)) in
        let d = length-append x (y ++ z) in
        let width = p_columns in
        let here = subst (λ xs. HoldsSystem own (v ++ xs) ↔ HoldsSystem first (v ++ (x ++ y))) (append_assoc x y z)
        (p.points v [] (x ++ y) z lv (omega (arith, lv)) (omega (arith, a, one)) (omega (arith, a, one, two, lx))) in
        let there = subst (λ xs. HoldsSystem other (v ++ (x ++ xs)) ↔ HoldsSystem second (v ++ (y ++ z))) (append-nil (y ++ z))
        (q.points v x (y ++ z) [] lv (omega (arith, lv, lx)) (omega (arith, b, two)) (omega (arith, b, two, lx))) in
        let met = both (v ++ (x ++ (y ++ z))) (omega (arith, b, c, d, width, two, lx)) in
        ((λ h. (here.0 (met.0 h).0, there.0 (met.0 h).1)), (λ k. met.1 (here.1 k.0, there.1 k.1)));
    within = within;
    columns = free ∙ p_columns;
    definitions = λ one two. plain (p.definitions one ∙ sym (q.definitions two)) ∙ p.definitions one;
  }
