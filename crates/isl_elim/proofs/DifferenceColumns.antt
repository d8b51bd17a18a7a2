-- One column out of normal difference constraints: it is exact, has few pairs of bounds, and what is left are such, with constants of one bit
-- more.
use Rattle.std.proofs.Common.{◌≡◌, ◌≢◌, ◌⊎◌, inl, inr, refl, ◌∙◌, arith, Bool, true, false, cond, int_lt, not, ℕ, zero, suc, ◌+◌, ◌*◌, ◌<◌, ◌≤◌, ◌^◌}
use Rattle.std.proofs.Common.{ℤ, pos, negsuc, neg_ℤ, ◌<ℤ◌, ◌*ℤ◌, unsigned_abs, List, [], ◌∷◌, length, get_or, map, Option, Some, None, IfSome, Result, Ok, Err}
use Rattle.std.specs.Prelude.{IfOk}
use Rattle.std.specs.Option.{option_and_then}
use Rattle.std.specs.List.{All}
use Rattle.std.specs.Ordering.{int_eq}
use Rattle.std.proofs.lemmas.Bool.Decides.{Decides-int_eq}
use Rattle.std.proofs.lemmas.List.Elements.{All-nil, All-cons, All-head, All-tail, All-append, All-filter, All-map}
use Rattle.isl_math.proofs.ListLaws.{all_or_any}
use Rattle.isl_math.proofs.Ring.{linear}
use Rattle.isl_math.specs.Divide.{floor_div}
use Rattle.isl_math.specs.Gcd.{gcd_of}
use Rattle.isl_math.specs.Order.{abs_of, sign_of}
use Rattle.isl_math.proofs.ColumnLaws.{length-weighted_sum}
use Rattle.isl_math.proofs.GcdLaws.{IsGcdOf-gcd_of}
use Rattle.isl_meter.specs.declared.Cut.{Cut}
use Rattle.isl_meter.specs.Gauge.{Gauge}
use Rattle.isl_piece.specs.declared.row.RowKind.{RowKind}
use Rattle.isl_piece.specs.declared.row.RowKind.TheVariants as kinds
use Rattle.isl_piece.specs.declared.row.Row.{Row}
use Rattle.isl_piece.specs.Normal.{IsNormal}
use Rattle.isl_piece.specs.Row.{coef_at}
use Rattle.isl_piece.proofs.ContentLaws.{zero_cases}
use Rattle.isl_omega.specs.Column.{IsProper, dropped}
use Rattle.isl_omega.specs.Equality.{HasEquality, solvable, row_factor, equality_factor, image_of, images_of, solved_for}
use Rattle.isl_omega.specs.Magnitude.{IsRowUpToAt}
use Rattle.isl_omega.specs.Shadow.{real_row}
use Rattle.isl_omega.specs.Sides.{by_sign, is_same, on_side, side_of}
use Rattle.isl_omega.specs.declared.sides.Side.{Side}
use Rattle.isl_omega.specs.declared.sides.Side.TheVariants.{Lower, Upper, Divides, NotDivides, Free}
use Rattle.isl_omega.proofs.EqualityLemmas.{AreFactors-from_gcd}
use Rattle.isl_omega.proofs.SideLemmas.{picked}
use Rattle.isl_shadows.specs.Exact.{IsExactRow, IsExactColumn, real_rows, rows_left, exact_rows, pairs_on}
use Rattle.isl_column.specs.Parts.{PartsView, IsHeadAlone}
use Rattle.isl_shadows.specs.Solved.{is_equality, size_at, lesser_of, least_equality, solved_rows}
use Rattle.isl_shadows.specs.Tame.{IsTameWithin, IsTameColumn}
use Rattle.isl_ledger.specs.Answered.{IsTame}
use Rattle.isl_ledger.specs.Difference.{IsDifferenceRow}
use Rattle.isl_ledger.proofs.AnsweredLaws.{answered_more}
use Rattle.isl_ledger.proofs.ComparisonLaws.{coefficient_small}
use Rattle.isl_ledger.proofs.CountLaws.{AreWide}
use Rattle.isl_ledger.proofs.DifferenceLaws.{difference_cancelled, difference_left, difference_paired, difference_up_to, pair_fits}
use Rattle.isl_ledger.proofs.NormalCounts.{column_pairs_few}
use Rattle.isl_ledger.proofs.NormalDifferences.{difference_wider, normal_differences, IsTrivial}
use Rattle.isl_elim.specs.Tame.{IsDifferenceHead}

-- normal difference constraints over so many columns, with constants of so many bits
pub record AreDifferences (g : Gauge) (columns bits : ℕ) (rows : List Row) : Type 0 where
  pub proper : All (IsProper g columns) rows
  pub normal : IsNormal rows
  pub differences : All (IsDifferenceRow bits) rows

-- the row is an equality that has the column
abbrev IsEqualityOn : ℕ → Row → Type 0
IsEqualityOn col r = (r.kind ≡ kinds.Zero) × (coef_at r col ≢ pos 0)

-- some equality has the column, or none has it
pub equality_or_none : (col : ℕ) (rows : List Row) → HasEquality col rows ⊎ (¬ HasEquality col rows)
equality_or_none col rows = elim (all_or_any (λ r. ¬ IsEqualityOn col r) (IsEqualityOn col) rows (λ k d l. has_or_not (get_or rows k d))) [
  | inl none ↦ inr (λ a. none a.0 a.1 a.2 (rw (a.3) a.4))
  | inr some ↦ inl some
]
  where
    is_zero : (kind : RowKind) → (kind ≡ kinds.Zero) ⊎ (kind ≢ kinds.Zero)
    is_zero kinds.Zero = inl refl
    is_zero kinds.AtLeast = inr (λ e. cc)
    is_zero kinds.Divides = inr (λ e. cc)
    is_zero kinds.NotDivides = inr (λ e. cc)

    has_or_not : (r : Row) → (¬ IsEqualityOn col r) ⊎ IsEqualityOn col r
    has_or_not r = elim (is_zero r.kind) [
      | inl e ↦ elim (zero_cases (coef_at r col)) [ inl z ↦ inl (λ h. h.1 z) | inr n ↦ inr (e, n) ]
      | inr n ↦ inl (λ h. n h.0)
    ]

-- ---- one row
module _ (bits col : ℕ) (r : Row) (h : IsDifferenceRow bits r) (inside : col < length r.coefs) where
  small : unsigned_abs (coef_at r col) ≤ 1
  small = coefficient_small r.coefs h.first h.second col h.compares inside

  pub row_up_to : IsRowUpToAt col 1 (2 ^ bits) r
  row_up_to = record { factor = small; numbers = difference_up_to bits r h }

  pub row_exact : IsExactRow Lower col r
  row_exact = record {
    lacks_divides = λ e. lacks Divides (λ c. sign_divides c) (λ f. cc) e;
    lacks_not_divides = λ e. lacks NotDivides (λ c. sign_not_divides c) (λ f. cc) e;
    factor = λ e. by_kind h.kind e;
  }
    where
      sign_divides : (c : ℤ) → by_sign c ≢ Divides
      sign_divides (pos zero) e = cc
      sign_divides (pos (suc n)) e = cc
      sign_divides (negsuc n) e = cc

      sign_not_divides : (c : ℤ) → by_sign c ≢ NotDivides
      sign_not_divides (pos zero) e = cc
      sign_not_divides (pos (suc n)) e = cc
      sign_not_divides (negsuc n) e = cc

      lacks : (side : Side) → ((c : ℤ) → by_sign c ≢ side) → Free ≢ side → side_of col r ≢ side
      lacks side n free e = elim h.kind [
        | inl z ↦ free (rw z at e)
        | inr a ↦ n (coef_at r col) (rw a at e)
      ]

      sign_lower : (c : ℤ) → unsigned_abs c ≤ 1 → by_sign c ≡ Lower → abs_of c ≡ pos 1
      sign_lower (pos zero) l e = absurd (let f = e in cc)
      sign_lower (pos (suc n)) l e = omega (arith, linear)
      sign_lower (negsuc n) l e = absurd (let f = e in cc)

      by_kind : (r.kind ≡ kinds.Zero) ⊎ (r.kind ≡ kinds.AtLeast) → side_of col r ≡ Lower → abs_of (coef_at r col) ≡ pos 1
      by_kind (inl z) e = absurd (let f = rw z at e in cc)
      by_kind (inr a) e = sign_lower (coef_at r col) small (rw a at e)

-- ---- rows
-- a difference constraint over so many columns
pub record IsWideDifference (columns bits : ℕ) (r : Row) : Type 0 where
  pub row : IsDifferenceRow bits r
  pub width : length r.coefs ≡ columns

-- such an upper bound
record IsUpperDifference (columns bits col : ℕ) (r : Row) : Type 0 where
  pub is : IsWideDifference columns bits r
  pub under : coef_at r col <ℤ pos 0

-- such an equality, which has the column
pub record IsPivot (columns bits col : ℕ) (r : Row) : Type 0 where
  pub is : IsWideDifference columns bits r
  pub there : coef_at r col ≢ pos 0

-- a difference constraint, or a row that always holds
abbrev IsKeptOrTrivial : ℕ → Row → Type 0
IsKeptOrTrivial bits r = IsDifferenceRow bits r ⊎ IsTrivial r

module _ (columns bits col : ℕ) (inside : col < columns) where
  taken_out : (r : Row) → IsWideDifference columns bits r → IsDifferenceRow bits (dropped r col)
  taken_out r h = difference_left bits col r h.row (let w = h.width in omega arith)

  wider : (r : Row) → IsDifferenceRow bits r → IsDifferenceRow (bits + 1) r
  wider r h = difference_wider bits (bits + 1) r (omega arith) h

  -- a pair of bounds
  paired : (l u : Row) → IsWideDifference columns bits l → IsUpperDifference columns bits col u
      → IsWideDifference columns (bits + 1) (real_row col l u)
  paired l u h k =
      let a = h.width in
      let b = k.is.width in
      let same : length l.coefs ≡ length u.coefs = omega arith in
      record {
        row = difference_paired bits col l u h.row k.is.row same (omega arith) k.under;
        width = length-weighted_sum (neg_ℤ (coef_at u col)) l.coefs (coef_at l col) u.coefs same ∙ a;
      }

  all_paired : (lowers uppers : List Row) → All (IsWideDifference columns bits) lowers → All (IsUpperDifference columns bits col) uppers
      → All (IsWideDifference columns (bits + 1)) (real_rows col lowers uppers)
  all_paired [] uppers h k = All-nil (IsWideDifference columns (bits + 1))
  all_paired (l ∷ lowers) uppers h k = All-append (IsWideDifference columns (bits + 1)) (map (real_row col l) uppers) (real_rows col lowers uppers)
      (All-map (IsWideDifference columns (bits + 1)) (real_row col l) uppers (λ i d m.
      paired l (get_or uppers i d) (All-head (IsWideDifference columns bits) l lowers h) (k i d m)))
      (all_paired lowers uppers (All-tail (IsWideDifference columns bits) l lowers h) k)

  -- what an equality leaves of a row
  image : (fixed r : Row) → IsPivot columns bits col fixed → IsWideDifference columns bits r
      → IsWideDifference columns (bits + 1) (image_of fixed col r)
  image fixed r p h =
      let e = coef_at fixed col in
      let a = coef_at r col in
      let m = row_factor e a in
      let n = equality_factor e a in
      let f = AreFactors-from_gcd e a (gcd_of e a) m (floor_div (sign_of e *ℤ a) (gcd_of e a)) n p.there (IsGcdOf-gcd_of e a) refl refl refl in
      let w = h.width in
      let v = p.is.width in
      let same : length r.coefs ≡ length fixed.coefs = omega arith in
      record {
        row = difference_cancelled bits col r fixed m n h.row p.is.row same (omega arith) p.there f.positive f.m_small f.cancel;
        width = length-weighted_sum m r.coefs n fixed.coefs same ∙ w;
      }

  pub image_left : (fixed r : Row) → IsPivot columns bits col fixed → IsWideDifference columns bits r
      → IsDifferenceRow (bits + 1) (dropped (image_of fixed col r) col)
  image_left fixed r p h =
      let i = image fixed r p h in
      difference_left (bits + 1) col (image_of fixed col r) i.row (let w = i.width in omega arith)

  trivial : (fixed : Row) → IsPivot columns bits col fixed → IsTrivial (dropped (solvable fixed col) col)
  trivial fixed p = record {
    kind = refl;
    modulus = by (coef_at fixed col) p.there (small bits col fixed p.is.row (let w = p.is.width in omega arith));
  }
    where
      by : (c : ℤ) → c ≢ pos 0 → unsigned_abs c ≤ 1 → abs_of c ≡ pos 1
      by (pos zero) n l = absurd (n refl)
      by (pos (suc c)) n l = omega (arith, linear)
      by (negsuc c) n l = omega (arith, linear)

  solved_for_left : (fixed : Row) (rows : List Row) → IsPivot columns bits col fixed → All (IsWideDifference columns bits) rows
      → IfSome (solved_for fixed col rows) (All (IsDifferenceRow (bits + 1)))
  solved_for_left fixed rows p h = normal_differences (bits + 1) (map (λ r. dropped r col) (images_of fixed col rows))
      (All-map (IsKeptOrTrivial (bits + 1)) (λ r. dropped r col) (images_of fixed col rows)
      (All-cons (λ r. IsKeptOrTrivial (bits + 1) (dropped r col)) (solvable fixed col) (map (image_of fixed col) rows) (inr (trivial fixed p))
      (All-map (λ r. IsKeptOrTrivial (bits + 1) (dropped r col)) (image_of fixed col) rows (λ k d l. inl (image_left fixed (get_or rows k d) p (h k d l))))))

  exact_left : (rows : List Row) → All (IsWideDifference columns bits) (on_side Free col rows)
      → All (IsWideDifference columns bits) (on_side Lower col rows)
      → All (IsUpperDifference columns bits col) (on_side Upper col rows) → IfSome (exact_rows rows col) (All (IsDifferenceRow (bits + 1)))
  exact_left rows free lower upper = normal_differences (bits + 1) (map (λ r. dropped r col) (rows_left col rows))
      (All-map (IsKeptOrTrivial (bits + 1)) (λ r. dropped r col) (rows_left col rows)
      (All-append (λ r. IsKeptOrTrivial (bits + 1) (dropped r col)) (on_side Free col rows)
      (real_rows col (on_side Lower col rows) (on_side Upper col rows))
      (λ k d l. inl (wider (dropped (get_or (on_side Free col rows) k d) col) (taken_out (get_or (on_side Free col rows) k d) (free k d l))))
      (λ k d l.
      let r = get_or (real_rows col (on_side Lower col rows) (on_side Upper col rows)) k d in
      let h = all_paired (on_side Lower col rows) (on_side Upper col rows) lower upper k d l in
      inl (difference_left (bits + 1) col r h.row (let w = h.width in omega arith)))))

-- what holds of each equality that has the column holds of the least
least_all : (P : Row → Type 0) (col : ℕ) (rows : List Row) → All (λ r. r.kind ≡ kinds.Zero → coef_at r col ≢ pos 0 → P r) rows
    → IfSome (least_equality col rows) P
least_all P col [] h = tt
least_all P col (r ∷ rows) h = by (is_equality r.kind (coef_at r col)) (means r.kind (coef_at r col))
    (least_all P col rows (All-tail (λ s. s.kind ≡ kinds.Zero → coef_at s col ≢ pos 0 → P s) r rows h))
  where
    means : (kind : RowKind) (c : ℤ) → is_equality kind c ≡ true → (kind ≡ kinds.Zero) × (c ≢ pos 0)
    means kinds.Zero c e = (refl, λ z. by_test (int_eq c (pos 0)) ((Decides-int_eq c (pos 0)).1 z) e)
      where
        by_test : (b : Bool) → b ≡ true → not b ≡ true → ⊥
        by_test true e f = cc
        by_test false e f = cc
    means kinds.AtLeast c e = absurd (let f = e in cc)
    means kinds.Divides c e = absurd (let f = e in cc)
    means kinds.NotDivides c e = absurd (let f = e in cc)

    one : P r → (o : Option Row) → IfSome o P → P (lesser_of col r o)
    one p None q = p
    one p (Some s) q = two (int_lt (size_at col s) (size_at col r))
      where
        two : (b : Bool) → P (cond b s r)
        two true = q
        two false = p

    by : (b : Bool) → (b ≡ true → (r.kind ≡ kinds.Zero) × (coef_at r col ≢ pos 0)) → IfSome (least_equality col rows) P
        → IfSome (cond b (Some (lesser_of col r (least_equality col rows))) (least_equality col rows)) P
    by true m rest =
        let e = m refl in
        one (All-head (λ s. s.kind ≡ kinds.Zero → coef_at s col ≢ pos 0 → P s) r rows h e.0 e.1) (least_equality col rows) rest
    by false m rest = rest

module _ (g : Gauge) (columns bits col : ℕ) (rows : List Row) (inside : col < columns) (are : AreDifferences g columns bits rows) where
  wide : AreWide columns rows
  wide k d l = (are.proper k d l).formed.width

  wide_rows : All (IsWideDifference columns bits) rows
  wide_rows k d l = record { row = are.differences k d l; width = wide k d l }

  up_to : All (IsRowUpToAt col 1 (2 ^ bits)) rows
  up_to k d l = row_up_to bits col (get_or rows k d) (are.differences k d l) (let w = wide k d l in omega arith)

  pub exact_column : IsExactColumn col rows
  exact_column = inl (λ k d l. row_exact bits col (get_or rows k d) (are.differences k d l) (let w = wide k d l in omega arith))

  pub pairs_on_few : pairs_on col rows ≤ columns * columns
  pairs_on_few = column_pairs_few bits columns col rows (λ r. is_same Lower (side_of col r)) (λ r. is_same Upper (side_of col r)) inside
      are.normal wide are.differences
      (picked g columns col Lower rows (λ r. (r.kind ≡ kinds.AtLeast) × (pos 0 <ℤ coef_at r col)) (λ r p m. m) are.proper)
      (picked g columns col Upper rows (λ r. (r.kind ≡ kinds.AtLeast) × (coef_at r col <ℤ pos 0)) (λ r p m. m) are.proper)

  some_pairs : (c : ℕ) → col < c → 1 ≤ c * c
  some_pairs zero l = absurd (omega arith)
  some_pairs (suc c) l = omega arith

  -- ---- what is left
  kept : (side : Side) → All (IsWideDifference columns bits) (on_side side col rows)
  kept side = All-filter (λ r. is_same side (side_of col r)) (IsWideDifference columns bits) rows wide_rows

  uppers : All (IsUpperDifference columns bits col) (on_side Upper col rows)
  uppers k d l = record {
    is = kept Upper k d l;
    under = picked g columns col Upper rows (λ r. coef_at r col <ℤ pos 0) (λ r p m. m.1) are.proper k d l;
  }

  pub exact_differences : IfSome (exact_rows rows col) (All (IsDifferenceRow (bits + 1)))
  exact_differences = exact_left columns bits col inside rows (kept Free) (kept Lower) uppers

  pub solved_differences : IfSome (solved_rows rows col) (All (IsDifferenceRow (bits + 1)))
  solved_differences = by (least_equality col rows) (least_all (IsPivot columns bits col) col rows
      (λ k d l e n. record { is = wide_rows k d l; there = n }))
    where
      by : (o : Option Row) → IfSome o (IsPivot columns bits col)
          → IfSome (option_and_then (λ fixed. solved_for fixed col rows) o) (All (IsDifferenceRow (bits + 1)))
      by None p = tt
      by (Some fixed) p = solved_for_left columns bits col inside fixed rows p wide_rows

  pub difference_head : (parts : PartsView) → (IsExactColumn col rows → ¬ HasEquality col rows → IsHeadAlone (exact_rows rows col) parts)
      → (HasEquality col rows → IsHeadAlone (solved_rows rows col) parts) → IsDifferenceHead parts (bits + 1)
  difference_head parts exact solved = elim (equality_or_none col rows) [
    | inl has ↦ record { head = solved_rows rows col; alone = solved has; rows = solved_differences }
    | inr none ↦ record { head = exact_rows rows col; alone = exact exact_column none; rows = exact_differences }
  ]

  -- ---- what it costs
  pub column_tame : {A : Type 0} (h : Gauge) (result : Result A Cut) → g.bits ≡ 127 → bits + 1 ≤ 120
      → IsTameColumn g h rows col result
      → IsTame (columns * columns) g h (λ _. Unit {0}) result
  column_tame {A = A} h result full room p = elim (equality_or_none col rows) [
    | inl has ↦ made 1 (some_pairs columns inside) (p.solved has)
    | inr none ↦ made (pairs_on col rows) pairs_on_few (p.exact exact_column none)
  ]
    where
      any_answer : (result : Result A Cut) → IfOk result (λ _. Unit {0})
      any_answer (Ok value) = tt
      any_answer (Err cut) = tt

      fits : 1 * 2 ^ bits + 1 * 2 ^ bits < 2 ^ g.bits
      fits = rw full (pair_fits bits 127 (omega arith))

      made : (most : ℕ) → most ≤ columns * columns → IsTameWithin most g h rows col result
          → IsTame (columns * columns) g h (λ _. Unit {0}) result
      made most few t =
          let numbers = t.numbers 1 (2 ^ bits) up_to fits in
          record {
            within = answered_more most (columns * columns) g h result few (t.answered numbers);
            numbers = numbers;
            answer = any_answer result;
          }
