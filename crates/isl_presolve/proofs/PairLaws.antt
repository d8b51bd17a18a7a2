-- Which rows are bounds of a column.
use Rattle.std.proofs.Common.{◌≡◌, ◌≢◌, refl, sym, arith, Bool, true, false, ℕ, zero, suc, ℤ, pos, negsuc}
use Rattle.std.specs.Prelude.{int_lt}
use Rattle.std.proofs.lemmas.Int.{ints}
use Rattle.isl_math.specs.Divide.{floor_mod}
use Rattle.isl_piece.specs.declared.row.RowKind.{RowKind}
use Rattle.isl_piece.specs.declared.row.RowKind.TheVariants as kind
use Rattle.isl_piece.specs.declared.row.Row.{Row}
use Rattle.isl_piece.specs.Row.{coef_at}
use Rattle.isl_omega.specs.Sides.{by_sign, is_same, side_of, side_of_kind, unless_multiple}
use Rattle.isl_omega.specs.declared.sides.Side.{Side}
use Rattle.isl_omega.specs.declared.sides.Side.TheVariants.{Lower, Upper, Divides, NotDivides}
use Rattle.isl_presolve.specs.Pairs.{bound_side}

above_zero : (n : ℕ) → int_lt (pos 0) (pos (suc n)) ≡ true
above_zero n = grind (arith, ints)

not_below_zero : (n : ℕ) → int_lt (pos (suc n)) (pos 0) ≡ false
not_below_zero n = grind (arith, ints)

positive_lower : (c : ℤ) → is_same Lower (by_sign c) ≡ int_lt (pos 0) c
positive_lower (pos zero) = refl
positive_lower (pos (suc n)) = sym (above_zero n)
positive_lower (negsuc n) = refl

negative_upper : (c : ℤ) → is_same Upper (by_sign c) ≡ int_lt c (pos 0)
negative_upper (pos zero) = refl
negative_upper (pos (suc n)) = sym (not_below_zero n)
negative_upper (negsuc n) = refl

-- a congruence is no bound
divides_unbound : (lower : Bool) (z : ℤ) → is_same (bound_side lower) (unless_multiple Divides z) ≡ false
divides_unbound true (pos zero) = refl
divides_unbound true (pos (suc n)) = refl
divides_unbound true (negsuc n) = refl
divides_unbound false (pos zero) = refl
divides_unbound false (pos (suc n)) = refl
divides_unbound false (negsuc n) = refl

not_divides_unbound : (lower : Bool) (z : ℤ) → is_same (bound_side lower) (unless_multiple NotDivides z) ≡ false
not_divides_unbound true (pos zero) = refl
not_divides_unbound true (pos (suc n)) = refl
not_divides_unbound true (negsuc n) = refl
not_divides_unbound false (pos zero) = refl
not_divides_unbound false (pos (suc n)) = refl
not_divides_unbound false (negsuc n) = refl

equality_unbound : (lower : Bool) (k c : ℤ) → is_same (bound_side lower) (side_of_kind kind.Zero k c) ≡ false
equality_unbound true k c = refl
equality_unbound false k c = refl

unbound : (lower : Bool) (asks : RowKind) (k c : ℤ) → asks ≢ kind.AtLeast → is_same (bound_side lower) (side_of_kind asks k c) ≡ false
unbound lower kind.Zero k c n = equality_unbound lower k c
unbound lower kind.AtLeast k c n = absurd (n refl)
unbound lower kind.Divides k c n = divides_unbound lower (floor_mod c k)
unbound lower kind.NotDivides k c n = not_divides_unbound lower (floor_mod c k)

pub no_bound : (lower : Bool) (col : ℕ) (r : Row) → r.kind ≢ kind.AtLeast → is_same (bound_side lower) (side_of col r) ≡ false
no_bound lower col r n = unbound lower r.kind r.k (coef_at r col) n

pub lower_bound : (col : ℕ) (r : Row) → r.kind ≡ kind.AtLeast → is_same Lower (side_of col r) ≡ int_lt (pos 0) (coef_at r col)
lower_bound col r e = rw e (positive_lower (coef_at r col))

pub upper_bound : (col : ℕ) (r : Row) → r.kind ≡ kind.AtLeast → is_same Upper (side_of col r) ≡ int_lt (coef_at r col) (pos 0)
upper_bound col r e = rw e (negative_upper (coef_at r col))

pub ruleset bound_steps = (no_bound, lower_bound, upper_bound)
