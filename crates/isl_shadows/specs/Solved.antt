-- public: what is left where an equality has the column: a function of the rows. (Pugh, the Omega test: substitution by an equality)
use Rattle.std.specs.Prelude.{◌≡◌, ◌≢◌, Bool, false, not, if◌then◌else◌, ℕ, ◌<◌, ℤ, pos, ◌≤ℤ◌, ◌<ℤ◌, int_lt, List, [], ◌∷◌, All, length, take, slice_index_or, Option, Some, None, option_and_then}
use Rattle.std.specs.Ordering.{int_eq}
use Rattle.isl_math.specs.Order.{abs_of}
use Rattle.isl_omega.specs.Equality.{solved_for}
use Rattle.isl_piece.specs.declared.row.RowKind.{RowKind}
use Rattle.isl_piece.specs.declared.row.RowKind.TheVariants.{Zero, AtLeast, Divides, NotDivides}
use Rattle.isl_piece.specs.declared.row.Row.{Row}
use Rattle.isl_piece.specs.Row.{coef_at}

-- a row of this kind is an equality that has the column, where c is its coefficient
abbrev pub is_equality : RowKind → ℤ → Bool
is_equality Zero c = not (int_eq c (pos 0))
is_equality AtLeast c = false
is_equality Divides c = false
is_equality NotDivides c = false

-- the magnitude of the coefficient at the column
abbrev pub size_at : ℕ → Row → ℤ
size_at col r = abs_of (coef_at r col)

-- of a row and another, if there is one, the one with the lesser coefficient; the first where they are equal
abbrev pub lesser_of : ℕ → Row → Option Row → Row
lesser_of col r None = r
lesser_of col r (Some s) = if int_lt (size_at col s) (size_at col r) then s else r

-- of the equalities that have the column the one with the least coefficient, and of those the first
abbrev pub least_equality : ℕ → List Row → Option Row
least_equality col [] = None
least_equality col (r ∷ rows) =
    if is_equality r.kind (coef_at r col) then Some (lesser_of col r (least_equality col rows)) else least_equality col rows

-- what that equality leaves of the rows without the column, in normal form; none where no point is left
abbrev pub solved_rows : List Row → ℕ → Option (List Row)
solved_rows rows col = option_and_then (λ fixed. solved_for fixed col rows) (least_equality col rows)

-- ---- inside
-- the row is an equality that has the column
abbrev pub IsEquality : ℕ → Row → Type 0
IsEquality col r = (r.kind ≡ Zero) × (coef_at r col ≢ pos 0)

-- the row at the place is the first of the equalities among the first n rows with the least coefficient
pub record IsLeastAmong (col : ℕ) (rows : List Row) (n at : ℕ) : Type 0 where
  pub place : at < length rows
  pub equality : (d : Row) → IsEquality col (slice_index_or rows at d)
  pub least : (d : Row) → All (λ r. IsEquality col r → size_at col (slice_index_or rows at d) ≤ℤ size_at col r) (take n rows)
  pub first : (d : Row) → All (λ r. IsEquality col r → size_at col (slice_index_or rows at d) <ℤ size_at col r) (take at rows)
