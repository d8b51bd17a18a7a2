-- The system that says that some numbers are the differences of others.
use Rattle.std.proofs.Common.{◌≡◌, ◌↔◌, refl, sym, ap, ap₂, ◌∙◌, subst, arith, ℕ, zero, suc, ◌+◌, ◌*◌, ◌<◌, ◌≤◌, ◌^◌}
use Rattle.std.proofs.Common.{ℤ, pos, negsuc, ◌+ℤ◌, ◌-ℤ◌, ◌*ℤ◌, List, [], ◌∷◌, ◌++◌, length, length-append, get_or}
use Rattle.std.proofs.Common.{set, length-set, get_or-set_other, replicate, pow_mono}
use Rattle.std.specs.List.{range_with_len}
use Rattle.std.proofs.lemmas.List.{append-nil, get_or-replicate, get_or_append_left, get_or-append-add, length-replicate}
use Rattle.std.proofs.lemmas.List.{ext_get_or}
use Rattle.std.proofs.lemmas.List.Elements.{All-map, All-replicate, All-set}
use Rattle.std.proofs.lemmas.List.FromFn.{length-range_with_len, get_or-range_with_len}
use Rattle.isl_math.specs.Dot.{dot}
use Rattle.isl_math.proofs.DotLaws.{dot-set_left, dot-zeros}
use Rattle.isl_math.proofs.ListLaws.{All-unmapped}
use Rattle.isl_math.proofs.Ring.{expand, linear}
use Rattle.isl_meter.specs.Gauge.{Gauge, IsWithin}
use Rattle.isl_piece.specs.declared.row.Row.{Row}
use Rattle.isl_piece.specs.declared.system.System.{System}
use Rattle.isl_piece.specs.Row.{HoldsRow, IsRowWithin, IsWellFormed}
use Rattle.isl_piece.specs.System.{HoldsSystem, IsSystemWithin, free_columns}
use Rattle.isl_relation.specs.Maps.{differences}
use Rattle.isl_images.specs.Differences.{difference_row, difference_system, IsWithDifferences}
use Rattle.isl_images.specs.Shift.{IsShifted}

-- ---- differences
pub length-differences : (xs ys : List ℤ) → length xs ≡ length ys → length (differences xs ys) ≡ length xs
length-differences [] ys e = refl
length-differences (x ∷ xs) [] e = absurd (omega arith)
length-differences (x ∷ xs) (y ∷ ys) e = ap suc (length-differences xs ys (omega arith))

get_or-differences : (xs ys : List ℤ) (i : ℕ) → i < length xs → i < length ys
    → get_or (differences xs ys) i (pos 0) ≡ get_or ys i (pos 0) -ℤ get_or xs i (pos 0)
get_or-differences [] ys i l k = absurd (omega arith)
get_or-differences (x ∷ xs) [] i l k = absurd (omega arith)
get_or-differences (x ∷ xs) (y ∷ ys) zero l k = refl
get_or-differences (x ∷ xs) (y ∷ ys) (suc i) l k = get_or-differences xs ys i (omega arith) (omega arith)

-- ---- one row
-- a coefficient put where none was
dot-put : (cs xs : List ℤ) (i : ℕ) (z : ℤ) → i < length cs → get_or cs i (pos 0) ≡ pos 0
    → dot (set cs i z) xs ≡ dot cs xs +ℤ z *ℤ get_or xs i (pos 0)
dot-put cs xs i z low none =
    by (dot (set cs i z) xs) (dot cs xs) (get_or cs i (pos 0)) (get_or xs i (pos 0)) (dot-set_left cs xs i z low) none
  where
    by : (v d g y : ℤ) → v ≡ d +ℤ (z -ℤ g) *ℤ y → g ≡ pos 0 → v ≡ d +ℤ z *ℤ y
    by v d g y e h =
        let e' = simp expand at e in
        let m = simp expand at (ap (λ w. w *ℤ y) h) in
        simp expand (omega (arith, linear))

module _ (parameters width place : ℕ) (low : place < width) where
  abbrev columns : ℕ
  columns = parameters + 3 * width

  abbrev zeros : List ℤ
  zeros = replicate columns (pos 0)

  abbrev one : List ℤ
  one = set zeros (parameters + place) (pos 1)

  abbrev two : List ℤ
  two = set one (parameters + width + place) (pos 1)

  abbrev three : List ℤ
  three = set two (parameters + 2 * width + place) (negsuc 0)

  zeros_long : length zeros ≡ columns
  zeros_long = length-replicate columns (pos 0)

  one_long : length one ≡ columns
  one_long = length-set zeros (parameters + place) (pos 1) ∙ zeros_long

  two_long : length two ≡ columns
  two_long = length-set one (parameters + width + place) (pos 1) ∙ one_long

  three_long : length three ≡ columns
  three_long = length-set two (parameters + 2 * width + place) (negsuc 0) ∙ two_long

  none : (i : ℕ) → i < columns → get_or zeros i (pos 0) ≡ pos 0
  none i l = get_or-replicate columns i (pos 0) (pos 0) l

  row_dot : (xs : List ℤ) → dot three xs
      ≡ (get_or xs (parameters + place) (pos 0) +ℤ get_or xs (parameters + width + place) (pos 0))
      -ℤ get_or xs (parameters + 2 * width + place) (pos 0)
  row_dot xs =
      let a = parameters + place in
      let b = parameters + width + place in
      let c = parameters + 2 * width + place in
      let zl = zeros_long in
      let ol = one_long in
      let tl = two_long in
      let first = dot-put zeros xs a (pos 1) (omega (arith, zl, low)) (none a (omega (arith, low))) in
      let second = dot-put one xs b (pos 1) (omega (arith, ol, low))
      (get_or-set_other zeros a b (pos 1) (pos 0) (λ e. omega (arith, low, e)) ∙ none b (omega (arith, low))) in
      let third = dot-put two xs c (negsuc 0) (omega (arith, tl, low))
      (get_or-set_other one b c (pos 1) (pos 0) (λ e. omega (arith, low, e))
      ∙ get_or-set_other zeros a c (pos 1) (pos 0) (λ e. omega (arith, low, e)) ∙ none c (omega (arith, low))) in
      by (dot three xs) (dot two xs) (dot one xs) (dot zeros xs) (get_or xs a (pos 0)) (get_or xs b (pos 0)) (get_or xs c (pos 0))
      third second first (dot-zeros columns xs)
    where
      by : (t s f z x y w : ℤ) → t ≡ s +ℤ negsuc 0 *ℤ w → s ≡ f +ℤ pos 1 *ℤ y → f ≡ z +ℤ pos 1 *ℤ x → z ≡ pos 0 → t ≡ (x +ℤ y) -ℤ w
      by t s f z x y w p q r n = omega (arith, linear)

  pub row_holds : (xs : List ℤ) → HoldsRow (difference_row parameters width place) xs
      ↔ (get_or xs (parameters + place) (pos 0)
      ≡ get_or xs (parameters + 2 * width + place) (pos 0) -ℤ get_or xs (parameters + width + place) (pos 0))
  row_holds xs = by (dot three xs) (get_or xs (parameters + place) (pos 0)) (get_or xs (parameters + width + place) (pos 0))
      (get_or xs (parameters + 2 * width + place) (pos 0)) (row_dot xs)
    where
      by : (t x y w : ℤ) → t ≡ (x +ℤ y) -ℤ w → (t +ℤ pos 0 ≡ pos 0) ↔ (x ≡ w -ℤ y)
      by t x y w e = ((λ h. omega (arith, linear)), (λ h. omega (arith, linear)))

  pub row_formed : IsWellFormed columns (difference_row parameters width place)
  row_formed = record { width = three_long; modulus = refl }

  pub row_within : (g : Gauge) → 8 ≤ g.bits → IsRowWithin g (difference_row parameters width place)
  row_within g bits =
      let room : 2 ^ 8 ≤ 2 ^ g.bits = pow_mono bits in
      record {
        coefs = All-set (IsWithin g) two (parameters + 2 * width + place) (negsuc 0) (omega (arith, room))
            (All-set (IsWithin g) one (parameters + width + place) (pos 1) (omega (arith, room))
            (All-set (IsWithin g) zeros (parameters + place) (pos 1) (omega (arith, room))
            (All-replicate (IsWithin g) columns (pos 0) (omega (arith, room)))));
        constant = omega (arith, room);
        k = omega (arith, room);
      }

-- ---- all rows
module _ (parameters width : ℕ) where
  abbrev row : ℕ → Row
  row = difference_row parameters width

  abbrev places : List ℕ
  places = range_with_len 0 width

  place_low : (k d : ℕ) → k < length places → get_or places k d < width
  place_low k d l =
      let long = length-range_with_len 0 width in
      let at = get_or-range_with_len 0 width k d (omega (arith, long, l)) in
      omega (arith, at, long, l)

  pub rows_within : (g : Gauge) → 8 ≤ g.bits → IsSystemWithin g (difference_system parameters width)
  rows_within g bits = record {
    rows = All-map (IsWellFormed (parameters + 3 * width)) row places
        (λ k d l. row_formed parameters width (get_or places k d) (place_low k d l));
    within = All-map (IsRowWithin g) row places (λ k d l. row_within parameters width (get_or places k d) (place_low k d l) g bits);
    count = omega arith;
    definitions = tt;
  }

  module _ (v d x y : List ℤ) (lv : length v ≡ parameters) (ld : length d ≡ width) (lx : length x ≡ width) (ly : length y ≡ width) where
    abbrev whole : List ℤ
    whole = v ++ (d ++ (x ++ y))

    at_d : (i : ℕ) → i < width → get_or whole (parameters + i) (pos 0) ≡ get_or d i (pos 0)
    at_d i l =
        ap (λ n. get_or whole (n + i) (pos 0)) (sym lv) ∙ get_or-append-add v (d ++ (x ++ y)) i (pos 0)
        ∙ get_or_append_left d (x ++ y) (pos 0) i (omega (arith, ld, l))

    at_x : (i : ℕ) → i < width → get_or whole (parameters + width + i) (pos 0) ≡ get_or x i (pos 0)
    at_x i l =
        let place : parameters + width + i ≡ length v + (length d + i) = omega (arith, lv, ld) in
        ap (λ n. get_or whole n (pos 0)) place ∙ get_or-append-add v (d ++ (x ++ y)) (length d + i) (pos 0)
        ∙ get_or-append-add d (x ++ y) i (pos 0) ∙ get_or_append_left x y (pos 0) i (omega (arith, lx, l))

    at_y : (i : ℕ) → i < width → get_or whole (parameters + 2 * width + i) (pos 0) ≡ get_or y i (pos 0)
    at_y i l =
        let place : parameters + 2 * width + i ≡ length v + (length d + (length x + i)) = omega (arith, lv, ld, lx) in
        ap (λ n. get_or whole n (pos 0)) place ∙ get_or-append-add v (d ++ (x ++ y)) (length d + (length x + i)) (pos 0)
        ∙ get_or-append-add d (x ++ y) (length x + i) (pos 0) ∙ get_or-append-add x y i (pos 0)

    -- the row of a place holds where the number there is the difference
    here : (i : ℕ) → i < width → HoldsRow (row i) whole ↔ (get_or d i (pos 0) ≡ get_or (differences x y) i (pos 0))
    here i l =
        let both = row_holds parameters width i l whole in
        let is = get_or-differences x y i (omega (arith, lx, l)) (omega (arith, ly, l)) in
        let right = ap₂ (λ a b. a -ℤ b) (at_y i l) (at_x i l) in (
          (λ h. sym (at_d i l) ∙ both.0 h ∙ right ∙ sym is),
          (λ e. both.1 (at_d i l ∙ e ∙ is ∙ sym right)),
        )

    pub system_holds : HoldsSystem (difference_system parameters width) whole ↔ (d ≡ differences x y)
    system_holds = (
      (λ h.
          let each = All-unmapped (λ r. HoldsRow r whole) row places h in
          ext_get_or (pos 0) d (differences x y) (ld ∙ sym lx ∙ sym (length-differences x y (lx ∙ sym ly))) (λ i l.
          let inside : i < width = omega (arith, ld, l) in
          let long = length-range_with_len 0 width in
          (here i inside).0 (subst (λ k. HoldsRow (row k) whole) (get_or-range_with_len 0 width i 0 inside ∙ omega arith)
          (each i 0 (omega (arith, long, inside)))))),
      (λ e. All-map (λ r. HoldsRow r whole) row places (λ k z l.
          (here (get_or places k z) (place_low k z l)).1 (ap (λ ns. get_or ns (get_or places k z) (pos 0)) e))),
    )

-- ---- a system with them
module _ (g : Gauge) (s : System) (parameters width : ℕ) (free : free_columns s ≡ parameters + (width + width)) where
  pub differences_made : 8 ≤ g.bits → (own made : System)
      → IsShifted g s (record { columns = parameters + 3 * width; stay = parameters; start = parameters + width }) own
      → free_columns own ≡ parameters + 3 * width
      → ((point : List ℤ) → length point ≡ free_columns own
      → HoldsSystem made point ↔ (HoldsSystem own point × HoldsSystem (difference_system parameters width) point))
      → IsSystemWithin g made → free_columns made ≡ free_columns own
      → (own.definitions ≡ [] → made.definitions ≡ own.definitions) → IsWithDifferences g s parameters width made
  differences_made bits own made p p_columns both within same plain = record {
    points = λ v d x y lv ld lx ly.
        let a = length-append v (d ++ (x ++ y)) in
        let b = length-append d (x ++ y) in
        let c = length-append x y in
        let w = p_columns in
        let shifted = subst (λ xs. HoldsSystem own (v ++ (d ++ xs)) ↔ HoldsSystem s (v ++ (x ++ y))) (append-nil (x ++ y))
        (p.points v d (x ++ y) [] lv (omega (arith, lv, ld)) (omega (arith, c, lv, lx, ly, free)) (omega (arith, c, lv, ld, lx, ly))) in
        let rows = system_holds parameters width v d x y lv ld lx ly in
        let met = both (v ++ (d ++ (x ++ y))) (omega (arith, a, b, c, w, lv, ld, lx, ly)) in (
          (λ h. (shifted.0 (met.0 h).0, rows.0 (met.0 h).1)),
          (λ k. met.1 (shifted.1 k.0, rows.1 k.1)),
        );
    within = within;
    columns = same ∙ p_columns;
    definitions = λ none. plain (p.definitions none) ∙ p.definitions none;
  }
