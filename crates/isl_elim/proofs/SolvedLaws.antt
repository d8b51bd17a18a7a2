-- One column out of rows by an equality that has it with 1 or -1.
use Rattle.std.proofs.Common.{◌≡◌, ◌≢◌, ◌↔◌, ◌⊎◌, inl, inr, refl, sym, ap, ◌∙◌, subst, arith, ℕ, zero, suc, ◌≤◌, ◌+◌, ◌-◌, ◌*◌, ◌<◌, ◌^◌}
use Rattle.std.proofs.Common.{ℤ, pos, negsuc, neg_ℤ, ◌+ℤ◌, ◌*ℤ◌, unsigned_abs}
use Rattle.std.proofs.Common.{List, [], ◌∷◌, ◌++◌, length, get_or, map, take, drop, set, Err}
use Rattle.std.specs.List.{All, AllZip, remove}
use Rattle.std.proofs.lemmas.List.Elements.{All-cons, All-map, All-push, All-tail}
use Rattle.std.proofs.lemmas.Grind.{common_steps}
use Rattle.std.proofs.lemmas.List.{take_all, take_more_set}
use Rattle.isl_math.specs.Dot.{weighted_sum}
use Rattle.isl_math.specs.Divide.{floor_div}
use Rattle.isl_math.specs.Gcd.{gcd_of}
use Rattle.isl_math.specs.Order.{abs_of, sign_of}
use Rattle.isl_math.proofs.DivideLaws.{one-Divides}
use Rattle.isl_math.proofs.GcdLaws.{IsGcdOf-gcd_of}
use Rattle.isl_math.proofs.Ring.{linear}
use Rattle.isl_meter.specs.declared.Cut.{Cut}
use Rattle.isl_meter.specs.Gauge.{Gauge, IsAnsweredWithin}
use Rattle.isl_piece.specs.declared.row.RowKind.{RowKind}
use Rattle.isl_piece.specs.declared.row.RowKind.TheVariants as kinds
use Rattle.isl_piece.specs.declared.row.Row.{Row}
use Rattle.isl_piece.specs.Combine.{combination, scaled_divisor}
use Rattle.isl_piece.specs.Row.{HoldsRow, IsRowWithin, IsWellFormed, coef_at, value_at}
use Rattle.isl_piece.specs.System.{HoldRows}
use Rattle.isl_shadows.proofs.EliminateLemmas.{solved_projects}
use Rattle.isl_omega.specs.Column.{IsProper, dropped}
use Rattle.isl_omega.specs.Equality.{AreFactors, row_factor, equality_factor, image_of, images_of, short_images_of, solvable}
use Rattle.isl_omega.specs.Magnitude.{IsNoOverflow, IsRowUpToAt}
use Rattle.isl_omega.proofs.ColumnLemmas.{hold_dropped}
use Rattle.isl_omega.proofs.EqualityLemmas.{AreFactors-from_gcd}
use Rattle.isl_omega.proofs.ImageLemmas.{IsImage, is_image, equality_step_is, step_free, step_well_formed}
use Rattle.isl_omega.proofs.ShortImages.{divisibility_none, short_formed, short_images_more}
use Rattle.isl_ledger.specs.Answered.{IsTame}
use Rattle.isl_ledger.specs.Difference.{IsDifferenceRow}
use Rattle.isl_ledger.proofs.DifferenceLaws.{pair_fits}
use Rattle.isl_elim.specs.Solved.{IsUnitEquality, IsSubstituted, short_image}
use Rattle.isl_elim.proofs.DifferenceColumns.{IsPivot, image_left, row_up_to}

-- ---- the coefficient
unit_cases : (p : ℤ) → unsigned_abs p ≡ 1 → (p ≡ pos 1) ⊎ (p ≡ negsuc 0)
unit_cases p u = grind (arith, linear)

unit_size : (p : ℤ) → unsigned_abs p ≡ 1 → abs_of p ≡ pos 1
unit_size p u = elim (unit_cases p u) [ inl e ↦ rw e refl | inr e ↦ rw e refl ]

pub unit_occurs : (p : ℤ) → unsigned_abs p ≡ 1 → p ≢ pos 0
unit_occurs p u z = let e = ap unsigned_abs z in omega arith

-- what cancels it
unit_factors : (p a m n : ℤ) → unsigned_abs p ≡ 1 → AreFactors p a m n → (m ≡ pos 1) × (n ≡ neg_ℤ (sign_of p *ℤ a))
unit_factors p a m n u f =
    let positive = f.positive in
    let small = f.m_small in
    let one : m ≡ pos 1 = omega (arith, linear) in (
      one,
      elim (unit_cases p u) [
        | inl e ↦ rw e (let c = rw (one, e) at f.cancel in omega (arith, linear))
        | inr e ↦ rw e (let c = rw (one, e) at f.cancel in omega (arith, linear))
      ],
    )

pub factor_small : (p a n : ℤ) → n ≡ neg_ℤ (sign_of p *ℤ a) → unsigned_abs a ≤ 1 → unsigned_abs n ≤ 1
factor_small p a n e l = rw e (by p)
  where
    by : (p : ℤ) → unsigned_abs (neg_ℤ (sign_of p *ℤ a)) ≤ 1
    by (pos zero) = omega (arith, linear)
    by (pos (suc p)) = omega (arith, linear)
    by (negsuc p) = omega (arith, linear)

-- ---- one row
same_modulus : (kind : RowKind) (k : ℤ) → scaled_divisor kind (pos 1) k ≡ k
same_modulus kinds.Zero k = refl
same_modulus kinds.AtLeast k = refl
same_modulus kinds.Divides k = omega (arith, linear)
same_modulus kinds.NotDivides k = omega (arith, linear)

-- a row of these numbers is the row where `fixed` is 0, without the column
pub short_made : (fixed row short : Row) (col : ℕ) (n : ℤ) → unsigned_abs (coef_at fixed col) ≡ 1
    → n ≡ neg_ℤ (sign_of (coef_at fixed col) *ℤ coef_at row col) → short.kind ≡ row.kind
    → short.coefs ≡ remove (weighted_sum (pos 1) row.coefs n fixed.coefs) col
    → short.constant ≡ pos 1 *ℤ row.constant +ℤ n *ℤ fixed.constant → short.k ≡ row.k → short ≡ short_image fixed col row
short_made fixed row short col n u e kind coefs constant k =
    let p = coef_at fixed col in
    let a = coef_at row col in
    let f = unit_factors p a (row_factor p a) (equality_factor p a) u
    (AreFactors-from_gcd p a (gcd_of p a) (row_factor p a) (floor_div (sign_of p *ℤ a) (gcd_of p a)) (equality_factor p a)
    (unit_occurs p u) (IsGcdOf-gcd_of p a) refl refl refl) in
    same short.kind row.kind short.coefs (remove (weighted_sum (pos 1) row.coefs n fixed.coefs) col) short.constant
    (pos 1 *ℤ row.constant +ℤ n *ℤ fixed.constant) short.k (scaled_divisor row.kind (pos 1) row.k) kind coefs constant
    (k ∙ sym (same_modulus row.kind row.k))
    ∙ ap (λ m. dropped (combination (pos 1) row m fixed) col) (e ∙ sym f.1)
    ∙ ap (λ m. dropped (combination m row (equality_factor p a) fixed) col) (sym f.0)
  where
    made : RowKind → List ℤ → ℤ → ℤ → Row
    made kind coefs constant k = record { kind = kind; coefs = coefs; constant = constant; k = k }

    same : (h i : RowKind) (xs ys : List ℤ) (c d k l : ℤ) → h ≡ i → xs ≡ ys → c ≡ d → k ≡ l → made h xs c k ≡ made i ys d l
    same h i xs ys c d k l e f g m = rw (e, f, g, m) refl

-- ---- all rows
pub none_short : (fixed : Row) (col : ℕ) → unsigned_abs (coef_at fixed col) ≡ 1 → [] ≡ short_images_of fixed col []
none_short fixed col u = ap (λ rows. rows ++ []) (sym (divisibility_none fixed col (unit_size (coef_at fixed col) u)))

are_images : (fixed : Row) (col : ℕ) (rows : List Row) → coef_at fixed col ≢ pos 0
    → AllZip (IsImage fixed col) rows (map (image_of fixed col) rows)
are_images fixed col [] n = tt
are_images fixed col (r ∷ rows) n = (is_image fixed col r n, are_images fixed col rows n)

-- the row that says where some whole number makes `fixed` 0 is left out, since it always holds
whole_hold : (fixed : Row) (col : ℕ) (rows : List Row) (xs : List ℤ) → unsigned_abs (coef_at fixed col) ≡ 1
    → HoldRows (short_images_of fixed col rows) xs ↔ HoldRows (map (λ r. dropped r col) (images_of fixed col rows)) xs
whole_hold fixed col rows xs u =
    let P : Row → Type 0 = λ r. HoldsRow r xs in
    let first = dropped (solvable fixed col) col in
    let others = map (λ r. dropped r col) (map (image_of fixed col) rows) in
    let one = unit_size (coef_at fixed col) u in
    rw (divisibility_none fixed col one) (
      (λ h. All-cons P first others (always one) h),
      (λ h. All-tail P first others h),
    )
  where
    always : abs_of (coef_at fixed col) ≡ pos 1 → HoldsRow (dropped (solvable fixed col) col) xs
    always e = rw e (one-Divides (value_at (dropped (solvable fixed col) col) xs))

pub substituted_is : (g : Gauge) (columns col at : ℕ) (fixed : Row) (rows short : List Row) → IsUnitEquality col fixed → at < length rows
    → fixed ≡ get_or rows at fixed → All (IsProper g columns) rows → col < columns → short ≡ short_images_of fixed col rows
    → All (IsRowWithin g) short → IsSubstituted g columns col rows short
substituted_is g columns col at fixed rows short u inside is proper l e within = record {
  proper = λ k d m. record { formed = rw (← e) at formed k d m; within = within k d m };
  points = λ point n.
      let images = map (image_of fixed col) rows in
      let left = subst (λ (rows : List Row). HoldRows rows point) e in
      let back = subst (λ (rows : List Row). HoldRows rows point) (sym e) in
      let whole = whole_hold fixed col rows point u.1 in
      let out = hold_dropped columns col (images_of fixed col rows) point (pos 0) l n
      (step_well_formed columns fixed col rows there all own) (step_free columns fixed col rows there all own l) in
      let step = equality_step_is columns fixed col rows images point (are_images fixed col rows there) all own l n in
      let some = solved_projects rows col at fixed point u.0 inside is in
      ((λ h. some.0 (step.0 (out.0 (whole.0 (left h))))), (λ h. back (whole.1 (out.1 (step.1 (some.1 h))))));
}
  where
    there : coef_at fixed col ≢ pos 0
    there = unit_occurs (coef_at fixed col) u.1

    all : All (IsWellFormed columns) rows
    all k d m = (proper k d m).formed

    own : IsWellFormed columns fixed
    own = subst (IsWellFormed columns) (sym is) (all at fixed inside)

    formed : All (IsWellFormed (columns - 1)) (short_images_of fixed col rows)
    formed = short_formed columns fixed col rows there all own l

-- ---- difference constraints
pub short_differences : (g : Gauge) (columns bits col at : ℕ) (fixed : Row) (rows short : List Row) → IsUnitEquality col fixed
    → at < length rows → fixed ≡ get_or rows at fixed → All (IsProper g columns) rows → col < columns
    → short ≡ short_images_of fixed col rows → All (IsDifferenceRow bits) rows → All (IsDifferenceRow (bits + 1)) short
short_differences g columns bits col at fixed rows short u inside is proper l e h =
    rw (e, divisibility_none fixed col (unit_size (coef_at fixed col) u.1))
    (All-map (IsDifferenceRow (bits + 1)) (λ r. dropped r col) (map (image_of fixed col) rows)
    (All-map (λ r. IsDifferenceRow (bits + 1) (dropped r col)) (image_of fixed col) rows
    (λ k d m. image_left columns bits col l fixed (get_or rows k d) pivot (record { row = h k d m; width = (proper k d m).formed.width }))))
  where
    pivot : IsPivot columns bits col fixed
    pivot = record {
      is = record {
        row = subst (IsDifferenceRow bits) (sym is) (h at fixed inside);
        width = ap (λ (r : Row). length r.coefs) is ∙ (proper at fixed inside).formed.width;
      };
      there = unit_occurs (coef_at fixed col) u.1;
    }

-- ---- the loop
-- an element that is read from the rest, which is as it was
pub rest_read : (xs ys : List Row) (i : ℕ) (d : Row) → i < length xs → i < length ys → drop i xs ≡ drop i ys → get_or xs i d ≡ get_or ys i d
rest_read xs ys i d l m e = grind (arith, common_steps)

pub take_written : (fixed : Row) (col : ℕ) (rows short : List Row) (i : ℕ) (row made : Row) → i < length short → i < length rows
    → row ≡ get_or rows i row → made ≡ short_image fixed col row → take i short ≡ short_images_of fixed col (take i rows)
    → take (i + 1) (set short i made) ≡ short_images_of fixed col (take (i + 1) rows)
take_written fixed col rows short i row made l m is image front =
    take_more_set short i made l
    ∙ ap (λ (xs : List Row). xs ++ made ∷ []) front
    ∙ ap (λ (r : Row). short_images_of fixed col (take i rows) ++ r ∷ []) image
    ∙ sym (short_images_more fixed col rows i row m is)

pub all_written : (g : Gauge) (short : List Row) (i : ℕ) (made : Row) → i < length short → All (IsRowWithin g) (take i short)
    → IsRowWithin g made → All (IsRowWithin g) (take (i + 1) (set short i made))
all_written g short i made l all own = rw (take_more_set short i made l) (All-push (IsRowWithin g) (take i short) made all own)

-- behind the last row
pub all_short : (fixed : Row) (col : ℕ) (rows short : List Row) (i : ℕ) → i ≡ length short → length short ≡ length rows
    → take i short ≡ short_images_of fixed col (take i rows) → short ≡ short_images_of fixed col rows
all_short fixed col rows short i e long front =
    sym (take_all i short (omega arith)) ∙ front ∙ ap (short_images_of fixed col) (take_all i rows (omega arith))

-- ---- difference constraints are substituted without an overflow
pub one_fits : (g h : Gauge) (bits : ℕ) → h ≡ g → g.bits ≡ 127 → bits + 1 ≤ 120 → 1 * 2 ^ bits + 1 * 2 ^ bits < 2 ^ h.bits
one_fits g h bits e full room = rw (e, full) (pair_fits bits 127 (omega arith))

pub one_up_to : (g : Gauge) (columns bits col : ℕ) (rows : List Row) (i : ℕ) (row : Row) → All (IsProper g columns) rows
    → All (IsDifferenceRow bits) rows → col < columns → i < length rows → row ≡ get_or rows i row → IsRowUpToAt col 1 (2 ^ bits) row
one_up_to g columns bits col rows i row proper h l m is = subst (IsRowUpToAt col 1 (2 ^ bits)) (sym is)
    (row_up_to bits col (get_or rows i row) (h i row m) (let w = (proper i row m).formed.width in omega arith))

pub one_tame : {A B : Type 0} (g h k : Gauge) (Left : B → Type 0) (cut : Cut) → h ≡ g → IsNoOverflow {A = A} (Err cut)
    → IsAnsweredWithin {A = A} 0 h k (Err cut) → IsTame {A = B} 0 g k Left (Err cut)
one_tame g h k Left cut e numbers p =
    let units = ap (λ (x : Gauge). x.units) e in
    let budget = ap (λ (x : Gauge). x.budget) e in
    record {
      within = record { units = let own = p.units in omega arith; answered = λ left. p.answered (omega arith) };
      numbers = numbers;
      answer = tt;
    }
