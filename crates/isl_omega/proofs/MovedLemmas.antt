-- Rows that do not have the column of an equality stay as they are.
use Rattle.std.proofs.Common.{◌≡◌, ◌≢◌, refl, sym, arith, ℕ, ℤ, pos, ◌+ℤ◌, ◌*ℤ◌, List, [], ◌∷◌, length}
use Rattle.isl_math.specs.Dot.{weighted_sum}
use Rattle.isl_math.specs.Gcd.{euclid, gcd_of}
use Rattle.isl_math.specs.Order.{abs_of, sign_of}
use Rattle.isl_math.proofs.DivideLaws.{floor_unique}
use Rattle.isl_math.proofs.OrderLaws.{abs_positive}
use Rattle.isl_math.proofs.Ring.{expand, linear}
use Rattle.isl_piece.specs.declared.row.RowKind.{RowKind}
use Rattle.isl_piece.specs.declared.row.RowKind.TheVariants.{Zero, AtLeast, Divides, NotDivides}
use Rattle.isl_piece.specs.declared.row.Row.{Row}
use Rattle.isl_piece.specs.Row.{coef_at}
use Rattle.isl_piece.specs.Combine.{combination, scaled_divisor}
use Rattle.isl_omega.specs.Equality.{image_of, row_factor, equality_factor}

gcd_zero : (e : ℤ) → gcd_of e (pos 0) ≡ abs_of e
unfolding gcd_of euclid
gcd_zero e = refl

one_of : (e : ℤ) → e ≢ pos 0 → row_factor e (pos 0) ≡ pos 1
one_of e n = rw (gcd_zero e) (sym (floor_unique (abs_of e) (abs_of e) (pos 1) (pos 0) (simp expand (omega (arith, linear)))
    (omega (arith, linear)) (abs_positive e n)).0)

none_of : (e : ℤ) → e ≢ pos 0 → equality_factor e (pos 0) ≡ pos 0
none_of e n =
    let none = (floor_unique (sign_of e *ℤ pos 0) (abs_of e) (pos 0) (pos 0) (simp expand (omega (arith, linear)))
    (omega (arith, linear)) (abs_positive e n)).0 in
    rw (gcd_zero e) (omega (arith, linear))

number_same : (x y : ℤ) → pos 1 *ℤ x +ℤ pos 0 *ℤ y ≡ x
number_same x y = simp expand (omega (arith, linear))

weighted_same : (xs ys : List ℤ) → length xs ≡ length ys → weighted_sum (pos 1) xs (pos 0) ys ≡ xs
weighted_same [] ys e = refl
weighted_same (x ∷ xs) [] e = absurd (omega arith)
weighted_same (x ∷ xs) (y ∷ ys) e = rw (number_same x y, weighted_same xs ys (omega arith)) refl

divisor_same : (kind : RowKind) (k : ℤ) → scaled_divisor kind (pos 1) k ≡ k
divisor_same Zero k = refl
divisor_same AtLeast k = refl
divisor_same Divides k = omega (arith, linear)
divisor_same NotDivides k = omega (arith, linear)

combination_same : (row fixed : Row) → length row.coefs ≡ length fixed.coefs → combination (pos 1) row (pos 0) fixed ≡ row
combination_same row fixed e =
    rw (weighted_same row.coefs fixed.coefs e, number_same row.constant fixed.constant, divisor_same row.kind row.k) refl

-- the image of a row without the column
pub image_itself : (fixed : Row) (col : ℕ) (row : Row) → coef_at fixed col ≢ pos 0 → coef_at row col ≡ pos 0
    → length row.coefs ≡ length fixed.coefs → image_of fixed col row ≡ row
image_itself fixed col row n z e = rw (z, one_of (coef_at fixed col) n, none_of (coef_at fixed col) n) (combination_same row fixed e)
