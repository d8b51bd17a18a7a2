-- How large the numbers of rows are.
use Rattle.std.proofs.Common.{arith, ℕ, zero, suc, ◌≤◌, ℤ, pos, List, [], ◌∷◌, get_or, unsigned_abs}
use Rattle.std.specs.List.{All}
use Rattle.std.proofs.lemmas.List.Elements.{All-head, All-tail, All-weaker}
use Rattle.isl_piece.specs.declared.row.Row.{Row}
use Rattle.isl_piece.specs.Row.{IsRowUpTo, coef_at}
use Rattle.isl_omega.specs.Magnitude.{IsRowUpToAt}

-- ---- more room
pub at_most : (x y n : ℕ) → x ≤ y → y ≤ n → x ≤ n
at_most x y n h k = omega arith

-- a number of a list, and 0 beyond its end
get_up_to : (b : ℕ) (xs : List ℤ) (k : ℕ) → All (λ z. unsigned_abs z ≤ b) xs → unsigned_abs (get_or xs k (pos 0)) ≤ b
get_up_to b [] k h = omega arith
get_up_to b (x ∷ xs) zero h = All-head (λ z. unsigned_abs z ≤ b) x xs h
get_up_to b (x ∷ xs) (suc k) h = get_up_to b xs k (All-tail (λ z. unsigned_abs z ≤ b) x xs h)

pub coef_up_to : (b : ℕ) (r : Row) (col : ℕ) → IsRowUpTo b r → unsigned_abs (coef_at r col) ≤ b
coef_up_to b r col h = get_up_to b r.coefs col h.coefs

-- a bound on all numbers is one on the coefficient at a column
pub row_up_to_at : (b col : ℕ) (r : Row) → IsRowUpTo b r → IsRowUpToAt col b b r
row_up_to_at b col r h = record { factor = coef_up_to b r col h; numbers = h }

pub rows_up_to_at : (b col : ℕ) (rows : List Row) → All (IsRowUpTo b) rows → All (IsRowUpToAt col b b) rows
rows_up_to_at b col rows h = All-weaker (IsRowUpTo b) (IsRowUpToAt col b b) (λ r p. row_up_to_at b col r p) rows h
