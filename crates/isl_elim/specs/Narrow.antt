-- inner: a column between two opposite bounds, which leave all but a few remainders a number. (Pugh, the Omega test: splinters)
use Rattle.std.specs.Prelude.{◌≡◌, ◌≢◌, ◌<◌, ℕ, zero, suc, pos, negsuc, ◌+ℤ◌, ◌-ℤ◌, ◌≤ℤ◌, ◌<ℤ◌}
use Rattle.std.specs.Prelude.{List, [], ◌∷◌, ◌++◌, length, slice_index_or}
use Rattle.isl_math.specs.Dot.{scaled}
use Rattle.isl_piece.specs.declared.row.RowKind.TheVariants.{AtLeast, NotDivides}
use Rattle.isl_piece.specs.declared.row.Row.{Row}
use Rattle.isl_piece.specs.Row.{coef_at}
use Rattle.isl_elim.specs.declared.narrow.Narrow.{Narrow}

-- with k at the column, at least 2, the form of the lower bound lies between 0 and k - 1 - count, where the upper one holds too
pub record AreOpposite (col : ℕ) (lower upper : Row) (count : ℕ) : Type 0 where
  pub lower_kind : lower.kind ≡ AtLeast
  pub upper_kind : upper.kind ≡ AtLeast
  pub opposite : upper.coefs ≡ scaled (negsuc 0) lower.coefs
  pub steep : pos 1 <ℤ coef_at lower col
  pub apart : pos 0 ≤ℤ (lower.constant +ℤ upper.constant)
  pub left_out : lower.constant +ℤ upper.constant ≡ coef_at lower col -ℤ pos 1 -ℤ pos count

-- of so many rows those that are neither bound do not have the column
abbrev pub AreFreeBelow : List Row → Narrow → ℕ → Type 0
AreFreeBelow rows narrow n =
    (i : ℕ) (d : Row) → i < n → i ≢ narrow.lower → i ≢ narrow.upper → coef_at (slice_index_or rows i d) narrow.col ≡ pos 0

-- two of the rows are such bounds, and the others do not have the column
pub record AreBounds (rows : List Row) (narrow : Narrow) : Type 0 where
  pub lower_in : narrow.lower < length rows
  pub upper_in : narrow.upper < length rows
  pub bounds : (d : Row) → AreOpposite narrow.col (slice_index_or rows narrow.lower d) (slice_index_or rows narrow.upper d) narrow.count
  pub free : AreFreeBelow rows narrow (length rows)

-- one of the columns has such bounds
pub record IsNarrow (rows : List Row) (cols : List ℕ) (narrow : Narrow) : Type 0 where
  pub index : ℕ
  pub among : index < length cols
  pub column : slice_index_or cols index 0 ≡ narrow.col
  pub are : AreBounds rows narrow

-- k, which the row has at the column, does not divide its form and n more
abbrev pub remainder_out : ℕ → Row → ℕ → Row
remainder_out col r n = record { kind = NotDivides; coefs = r.coefs; constant = r.constant +ℤ pos n; k = coef_at r col }

-- nor with any of the numbers 1 to n
abbrev pub remainders_out : ℕ → Row → ℕ → List Row
remainders_out col r zero = []
remainders_out col r (suc n) = remainders_out col r n ++ remainder_out col r (suc n) ∷ []
