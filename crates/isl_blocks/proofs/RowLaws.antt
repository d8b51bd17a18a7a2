-- Rows that compare the numbers of two blocks of columns.
use Rattle.std.proofs.Common.{◌≡◌, ◌≢◌, ◌↔◌, ◌⊎◌, inl, inr, refl, sym, ap, ◌∙◌, subst, arith, ℕ, ◌+◌, ◌<◌, ◌≤◌, ◌^◌, ℤ, pos, negsuc}
use Rattle.std.proofs.Common.{◌+ℤ◌, ◌-ℤ◌, ◌*ℤ◌, ◌<ℤ◌, ◌≤ℤ◌, List, [], ◌∷◌, All, length, get_or}
use Rattle.std.proofs.Common.{set, length-set, get_or-set_other, replicate, take, pow_mono}
use Rattle.std.specs.List.{range_with_len}
use Rattle.std.proofs.lemmas.Bool.{cases_lt}
use Rattle.std.proofs.lemmas.List.{ext_get_or, get_or-replicate, get_or-take, length-replicate, length-take-le, take_all}
use Rattle.std.proofs.lemmas.List.Elements.{All-append, All-cons, All-head, All-map, All-nil, All-replicate, All-set}
use Rattle.std.proofs.lemmas.List.FromFn.{length-range_with_len, get_or-range_with_len}
use Rattle.isl_math.specs.Dot.{dot}
use Rattle.isl_math.proofs.DotLaws.{dot-set_left, dot-zeros}
use Rattle.isl_math.proofs.ListLaws.{All-parts, All-unmapped}
use Rattle.isl_math.proofs.Ring.{expand, linear}
use Rattle.isl_meter.specs.Gauge.{Gauge, IsWithin}
use Rattle.isl_piece.specs.declared.row.RowKind.{RowKind}
use Rattle.isl_piece.specs.declared.row.RowKind.TheVariants.{Zero, AtLeast}
use Rattle.isl_piece.specs.declared.row.Row.{Row}
use Rattle.isl_piece.specs.declared.system.System.{System}
use Rattle.isl_piece.specs.Row.{HasModulus, HoldsRow, IsRowWithin, IsWellFormed}
use Rattle.isl_piece.specs.System.{HoldRows}
use Rattle.isl_blocks.specs.declared.cases.Direction.{Direction}
use Rattle.isl_blocks.specs.declared.cases.Direction.TheVariants.{Before, After}
use Rattle.isl_blocks.specs.Blocks.{block_at, numbers_of, total, width_at, widths_of}
use Rattle.isl_blocks.specs.CaseRows.{case_rows, compared_row, next_row, of_rows, same_rows}
use Rattle.isl_blocks.specs.Cases.{DiffersAt, IsCaseOf}
use Rattle.isl_blocks.proofs.WidthLaws.{block_long, ends_before, ends_inside, number_in_block}

-- ---- one row
-- a coefficient put where none was
dot-put : (cs xs : List ℤ) (i : ℕ) (z : ℤ) → i < length cs → get_or cs i (pos 0) ≡ pos 0
    → dot (set cs i z) xs ≡ dot cs xs +ℤ z *ℤ get_or xs i (pos 0)
dot-put cs xs i z low none =
    by (dot (set cs i z) xs) (dot cs xs) (get_or cs i (pos 0)) (get_or xs i (pos 0)) (dot-set_left cs xs i z low) none
  where
    by : (v d g y : ℤ) → v ≡ d +ℤ (z -ℤ g) *ℤ y → g ≡ pos 0 → v ≡ d +ℤ z *ℤ y
    by v d g y e h =
        let e' = simp expand at e in
        let m = simp expand at (ap (λ w. w *ℤ y) h) in
        simp expand (omega (arith, linear))

module _ (columns plus minus : ℕ) (first : plus < columns) (second : minus < columns) (differ : plus ≢ minus) where
  abbrev zeros : List ℤ
  zeros = replicate columns (pos 0)

  abbrev one : List ℤ
  one = set zeros plus (pos 1)

  abbrev two : List ℤ
  two = set one minus (negsuc 0)

  zeros_long : length zeros ≡ columns
  zeros_long = length-replicate columns (pos 0)

  one_long : length one ≡ columns
  one_long = length-set zeros plus (pos 1) ∙ zeros_long

  two_long : length two ≡ columns
  two_long = length-set one minus (negsuc 0) ∙ one_long

  row_dot : (xs : List ℤ) → dot two xs ≡ get_or xs plus (pos 0) -ℤ get_or xs minus (pos 0)
  row_dot xs =
      let z = zeros_long in
      let o = one_long in
      let none = λ (i : ℕ) (l : i < columns). get_or-replicate columns i (pos 0) (pos 0) l in
      let p = dot-put zeros xs plus (pos 1) (omega (arith, z, first)) (none plus first) in
      let m = dot-put one xs minus (negsuc 0) (omega (arith, o, second))
      (get_or-set_other zeros plus minus (pos 1) (pos 0) (λ e. differ (sym e)) ∙ none minus second) in
      by (dot two xs) (dot one xs) (dot zeros xs) (get_or xs plus (pos 0)) (get_or xs minus (pos 0)) m p (dot-zeros columns xs)
    where
      by : (t s z x y : ℤ) → t ≡ s +ℤ negsuc 0 *ℤ y → s ≡ z +ℤ pos 1 *ℤ x → z ≡ pos 0 → t ≡ x -ℤ y
      by t s z x y p q n = omega (arith, linear)

  pub zero_holds : (xs : List ℤ) → HoldsRow (compared_row Zero columns plus minus (pos 0)) xs
      ↔ (get_or xs minus (pos 0) ≡ get_or xs plus (pos 0))
  zero_holds xs = by (dot two xs) (get_or xs plus (pos 0)) (get_or xs minus (pos 0)) (row_dot xs)
    where
      by : (t x y : ℤ) → t ≡ x -ℤ y → (t +ℤ pos 0 ≡ pos 0) ↔ (y ≡ x)
      by t x y e = ((λ h. omega (arith, linear)), (λ h. omega (arith, linear)))

  pub less_holds : (xs : List ℤ) → HoldsRow (compared_row AtLeast columns plus minus (negsuc 0)) xs
      ↔ (get_or xs minus (pos 0) <ℤ get_or xs plus (pos 0))
  less_holds xs = by (dot two xs) (get_or xs plus (pos 0)) (get_or xs minus (pos 0)) (row_dot xs)
    where
      by : (t x y : ℤ) → t ≡ x -ℤ y → (pos 0 ≤ℤ (t +ℤ negsuc 0)) ↔ (y <ℤ x)
      by t x y e = ((λ h. omega (arith, linear)), (λ h. omega (arith, linear)))

  pub row_formed : (kind : RowKind) (constant : ℤ) → HasModulus kind (pos 1)
      → IsWellFormed columns (compared_row kind columns plus minus constant)
  row_formed kind constant modulus = record { width = two_long; modulus = modulus }

  pub row_within : (kind : RowKind) (constant : ℤ) (g : Gauge) → 8 ≤ g.bits → IsWithin g constant
      → IsRowWithin g (compared_row kind columns plus minus constant)
  row_within kind constant g bits small =
      let room : 2 ^ 8 ≤ 2 ^ g.bits = pow_mono bits in
      record {
        coefs = All-set (IsWithin g) one minus (negsuc 0) (omega (arith, room))
            (All-set (IsWithin g) zeros plus (pos 1) (omega (arith, room))
            (All-replicate (IsWithin g) columns (pos 0) (omega (arith, room))));
        constant = small;
        k = omega (arith, room);
      }

-- ---- the first numbers of two lists
pub same_front : (at : ℕ) (xs ys : List ℤ) → at ≤ length xs → at ≤ length ys
    → (take at xs ≡ take at ys) ↔ ((i : ℕ) → i < at → get_or xs i (pos 0) ≡ get_or ys i (pos 0))
same_front at xs ys one two = (
  (λ same i l.
      sym (get_or-take at xs i (pos 0) l) ∙ ap (λ zs. get_or zs i (pos 0)) same ∙ get_or-take at ys i (pos 0) l),
  (λ each.
      let m = length-take-le at xs one in
      let n = length-take-le at ys two in
      ext_get_or (pos 0) (take at xs) (take at ys) (m ∙ sym n) (λ i l.
      let k : i < at = omega (arith, m, l) in
      get_or-take at xs i (pos 0) k ∙ each i k ∙ sym (get_or-take at ys i (pos 0) k))),
)

-- ---- two blocks of one width
module _ (widths : List ℕ) (a b : ℕ) (here : a < length widths) (there : b < length widths) (differ : a ≢ b)
    (same : width_at widths a ≡ width_at widths b) where
  abbrev columns : ℕ
  columns = total widths

  abbrev first : ℕ
  first = total (take a widths)

  abbrev second : ℕ
  second = total (take b widths)

  abbrev w : ℕ
  w = width_at widths a

  pub first_in : (i : ℕ) → i < w → first + i < columns
  first_in i l = let e = ends_inside widths a in omega (arith, e, l)

  pub second_in : (i : ℕ) → i < w → second + i < columns
  second_in i l = let e = ends_inside widths b in omega (arith, e, l, same)

  pub apart : (i : ℕ) → i < w → first + i ≢ second + i
  apart i l e = by (cases_lt a b) (cases_lt b a)
    where
      by : (a < b) ⊎ (b ≤ a) → (b < a) ⊎ (a ≤ b) → ⊥
      by (inl p) q = let k = ends_before widths a b p (omega (arith, there)) in omega (arith, k, e, l)
      by (inr p) (inl q) = let k = ends_before widths b a q (omega (arith, here)) in omega (arith, k, e, l, same)
      by (inr p) (inr q) = differ (omega (arith, p, q))

  abbrev row : ℕ → Row
  row i = compared_row Zero columns (second + i) (first + i) (pos 0)

  -- the place of each of the rows
  place_low : (count k d : ℕ) → k < length (range_with_len 0 count) → get_or (range_with_len 0 count) k d < count
  place_low count k d l =
      let long = length-range_with_len 0 count in
      let at = get_or-range_with_len 0 count k d (omega (arith, long, l)) in
      omega (arith, at, long, l)

  apart_back : (i : ℕ) → i < w → second + i ≢ first + i
  apart_back i l e = apart i l (sym e)

  pub same_formed : (count : ℕ) → count ≤ w → All (IsWellFormed columns) (same_rows columns first second count)
  same_formed count inside = All-map (IsWellFormed columns) row (range_with_len 0 count) (λ k d l.
      let i = get_or (range_with_len 0 count) k d in
      let low : i < w = (let p = place_low count k d l in omega (arith, p, inside)) in
      row_formed columns (second + i) (first + i) (second_in i low) (first_in i low) (apart_back i low) Zero (pos 0) refl)

  pub same_within : (g : Gauge) → 8 ≤ g.bits → (count : ℕ) → count ≤ w → All (IsRowWithin g) (same_rows columns first second count)
  same_within g bits count inside = All-map (IsRowWithin g) row (range_with_len 0 count) (λ k d l.
      let i = get_or (range_with_len 0 count) k d in
      let room : 2 ^ 8 ≤ 2 ^ g.bits = pow_mono bits in
      let low : i < w = (let p = place_low count k d l in omega (arith, p, inside)) in
      row_within columns (second + i) (first + i) (second_in i low) (first_in i low) (apart_back i low) Zero (pos 0) g bits
      (omega (arith, room)))

  module _ (at : ℕ) (low : at < w) where
    pub next_formed : (direction : Direction) → IsWellFormed columns (next_row columns (first + at) (second + at) direction)
    next_formed Before =
        row_formed columns (second + at) (first + at) (second_in at low) (first_in at low) (apart_back at low) AtLeast (negsuc 0) refl
    next_formed After =
        row_formed columns (first + at) (second + at) (first_in at low) (second_in at low) (apart at low) AtLeast (negsuc 0) refl

    pub next_within : (g : Gauge) → 8 ≤ g.bits → (direction : Direction)
        → IsRowWithin g (next_row columns (first + at) (second + at) direction)
    next_within g bits Before =
        let room : 2 ^ 8 ≤ 2 ^ g.bits = pow_mono bits in
        row_within columns (second + at) (first + at) (second_in at low) (first_in at low) (apart_back at low) AtLeast (negsuc 0) g bits
        (omega (arith, room))
    next_within g bits After =
        let room : 2 ^ 8 ≤ 2 ^ g.bits = pow_mono bits in
        row_within columns (first + at) (second + at) (first_in at low) (second_in at low) (apart at low) AtLeast (negsuc 0) g bits
        (omega (arith, room))

  -- ---- at the numbers of blocks
  module _ (blocks : List (List ℤ)) (are : widths_of blocks ≡ widths) where
    abbrev xs : List ℤ
    xs = block_at blocks a

    abbrev ys : List ℤ
    ys = block_at blocks b

    abbrev whole : List ℤ
    whole = numbers_of blocks

    first_long : length xs ≡ w
    first_long = block_long blocks a ∙ ap (λ ws. width_at ws a) are

    second_long : length ys ≡ w
    second_long = block_long blocks b ∙ ap (λ ws. width_at ws b) are ∙ sym same

    at_first : (i : ℕ) → i < w → get_or whole (first + i) (pos 0) ≡ get_or xs i (pos 0)
    at_first i l =
        let n = first_long in
        ap (λ ws. get_or whole (total (take a ws) + i) (pos 0)) (sym are) ∙ number_in_block blocks a i (omega (arith, n, l))

    at_second : (i : ℕ) → i < w → get_or whole (second + i) (pos 0) ≡ get_or ys i (pos 0)
    at_second i l =
        let n = second_long in
        ap (λ ws. get_or whole (total (take b ws) + i) (pos 0)) (sym are) ∙ number_in_block blocks b i (omega (arith, n, l))

    here_same : (i : ℕ) → i < w → HoldsRow (row i) whole ↔ (get_or xs i (pos 0) ≡ get_or ys i (pos 0))
    here_same i l =
        let both = zero_holds columns (second + i) (first + i) (second_in i l) (first_in i l) (apart_back i l) whole in
        let p = at_first i l in
        let q = at_second i l in
        ((λ h. sym p ∙ both.0 h ∙ q), (λ e. both.1 (p ∙ e ∙ sym q)))

    pub same_hold : (count : ℕ) → count ≤ w → HoldRows (same_rows columns first second count) whole ↔ (take count xs ≡ take count ys)
    same_hold count inside =
        let m = first_long in
        let n = second_long in
        let front = same_front count xs ys (omega (arith, m, inside)) (omega (arith, n, inside)) in
        let places = range_with_len 0 count in (
          (λ h.
              let each = All-unmapped (λ r. HoldsRow r whole) row places h in
              front.1 (λ i l.
              let long = length-range_with_len 0 count in
              (here_same i (omega (arith, l, inside))).0 (subst (λ k. HoldsRow (row k) whole)
              (get_or-range_with_len 0 count i 0 l ∙ omega arith) (each i 0 (omega (arith, long, l)))))),
          (λ e. All-map (λ r. HoldsRow r whole) row places (λ k d l.
              let i = get_or places k d in
              let p = place_low count k d l in
              (here_same i (omega (arith, p, inside))).1 (front.0 e i p))),
        )

    module _ (at : ℕ) (low : at < w) where
      abbrev LessAt : Direction → Type 0
      LessAt Before = get_or xs at (pos 0) <ℤ get_or ys at (pos 0)
      LessAt After = get_or ys at (pos 0) <ℤ get_or xs at (pos 0)

      next_holds : (direction : Direction) → HoldsRow (next_row columns (first + at) (second + at) direction) whole ↔ LessAt direction
      next_holds Before =
          subst (λ m. HoldsRow (next_row columns (first + at) (second + at) Before) whole ↔ (m <ℤ get_or ys at (pos 0))) (at_first at low)
          (subst (λ n. HoldsRow (next_row columns (first + at) (second + at) Before) whole ↔ (get_or whole (first + at) (pos 0) <ℤ n))
          (at_second at low)
          (less_holds columns (second + at) (first + at) (second_in at low) (first_in at low) (apart_back at low) whole))
      next_holds After =
          subst (λ m. HoldsRow (next_row columns (first + at) (second + at) After) whole ↔ (get_or ys at (pos 0) <ℤ m)) (at_first at low)
          (subst (λ n. HoldsRow (next_row columns (first + at) (second + at) After) whole ↔ (n <ℤ get_or whole (first + at) (pos 0)))
          (at_second at low)
          (less_holds columns (first + at) (second + at) (first_in at low) (second_in at low) (apart at low) whole))

      both_at : (direction : Direction) → (take at xs ≡ take at ys) → LessAt direction → DiffersAt direction at xs ys
      both_at Before e l = record { same = e; less = l }
      both_at After e l = record { same = sym e; less = l }

      back_at : (direction : Direction) → DiffersAt direction at xs ys → (take at xs ≡ take at ys) × LessAt direction
      back_at Before d = (d.same, d.less)
      back_at After d = (sym d.same, d.less)

      pub case_holds : (direction : Direction) → HoldRows (case_rows columns first second at direction) whole ↔ DiffersAt direction at xs ys
      case_holds direction =
          let P : Row → Type 0 = λ r. HoldsRow r whole in
          let next = next_row columns (first + at) (second + at) direction in
          let rows = same_rows columns first second at in
          let front = same_hold at (omega (arith, low)) in
          let last = next_holds direction in (
            (λ h.
                let parts = All-parts P rows (next ∷ []) h in
                both_at direction (front.0 parts.0) (last.0 (All-head P next [] parts.1))),
            (λ d.
                let k = back_at direction d in
                All-append P rows (next ∷ []) (front.1 k.0) (All-cons P next [] (last.1 k.1) (All-nil P))),
          )

    pub all_same : HoldRows (same_rows columns first second w) whole ↔ (xs ≡ ys)
    all_same =
        let both = same_hold w (omega arith) in
        let m = first_long in
        let n = second_long in
        let p : take w xs ≡ xs = whole_of w xs (omega (arith, m)) in
        let q : take w ys ≡ ys = whole_of w ys (omega (arith, n)) in
        ((λ h. sym p ∙ both.0 h ∙ q), (λ e. both.1 (p ∙ e ∙ sym q)))
      where
        whole_of : (n : ℕ) (zs : List ℤ) → length zs ≤ n → take n zs ≡ zs
        whole_of n zs l = take_all n zs l

  -- ---- the systems
  pub case_made : (at : ℕ) → at < w → (direction : Direction) (made : System)
      → made ≡ of_rows columns (case_rows columns first second at direction)
      → IsCaseOf widths a b (DiffersAt direction at) made
  case_made at low direction made is = rw is (record {
    points = λ blocks are. case_holds blocks are at low direction;
    within = λ g bits.
        let front : at ≤ w = omega (arith, low) in
        let next = next_row columns (first + at) (second + at) direction in
        record {
          rows = All-append (IsWellFormed columns) (same_rows columns first second at) (next ∷ []) (same_formed at front)
              (All-cons (IsWellFormed columns) next [] (next_formed at low direction) (All-nil (IsWellFormed columns)));
          within = All-append (IsRowWithin g) (same_rows columns first second at) (next ∷ []) (same_within g bits at front)
              (All-cons (IsRowWithin g) next [] (next_within at low g bits direction) (All-nil (IsRowWithin g)));
          count = omega arith;
          definitions = tt;
        };
    free = omega arith;
    definitions = refl;
  })

  pub same_made : (made : System) → made ≡ of_rows columns (same_rows columns first second w) → IsCaseOf widths a b (λ xs ys. xs ≡ ys) made
  same_made made is = rw is (record {
    points = λ blocks are. all_same blocks are;
    within = λ g bits. record {
      rows = same_formed w (omega arith);
      within = same_within g bits w (omega arith);
      count = omega arith;
      definitions = tt;
    };
    free = omega arith;
    definitions = refl;
  })
