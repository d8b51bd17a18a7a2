-- public: equalities that have a column, and rows from which one takes it out. (Pugh, the Omega test: substitution by an equality)
use Rattle.std.specs.Prelude.{◌≡◌, ◌≢◌, ℕ, ◌≤◌, ℤ, pos, neg_ℤ, ◌+ℤ◌, ◌*ℤ◌, ◌<ℤ◌, List, [], ◌∷◌, ◌++◌, if◌then◌else◌, Any, Option, map, unsigned_abs}
use Rattle.std.specs.List.{insert}
use Rattle.std.specs.Ordering.{int_eq}
use Rattle.isl_math.specs.Divide.{floor_div}
use Rattle.isl_math.specs.Gcd.{gcd_of}
use Rattle.isl_math.specs.Order.{abs_of, sign_of}
use Rattle.isl_piece.specs.declared.row.RowKind.TheVariants.{Zero, Divides}
use Rattle.isl_piece.specs.declared.row.Row.{Row}
use Rattle.isl_piece.specs.Normal.{normal_rows}
use Rattle.isl_piece.specs.Row.{value_at, coef_at}
use Rattle.isl_omega.specs.Column.{HoldAt, dropped}
use Rattle.isl_piece.specs.Combine.{combination}

-- some equality has the column
abbrev pub HasEquality : ℕ → List Row → Type 0
HasEquality col rows = Any (λ r. (r.kind ≡ Zero) × (coef_at r col ≢ pos 0)) rows

-- m of a row and n of an equality cancel the column, whose coefficients are `own` and `pivot`
pub record AreFactors (pivot own m n : ℤ) : Type 0 where
  pub positive : pos 0 <ℤ m
  pub cancel : m *ℤ own +ℤ n *ℤ pivot ≡ pos 0
  pub m_small : unsigned_abs m ≤ unsigned_abs pivot
  pub n_small : unsigned_abs n ≤ unsigned_abs own

-- some x at the column makes `fixed` 0 and all rows hold
abbrev pub IsSolvedBy : List Row → Row → ℕ → List ℤ → Type 0
IsSolvedBy rows fixed col point = (x : ℤ) × (value_at fixed (insert point col x) ≡ pos 0) × HoldAt rows col point x

-- the row that says that some whole number at the column makes `fixed` 0: the coefficient divides what stands beside it
abbrev pub solvable : Row → ℕ → Row
solvable fixed col = record { kind = Divides; coefs = fixed.coefs; constant = fixed.constant; k = abs_of (coef_at fixed col) }

-- ---- what is left
-- what to multiply a row by, where e is the coefficient of the equality at the column and a that of the row: |e| / gcd(e, a)
abbrev pub row_factor : ℤ → ℤ → ℤ
row_factor e a = floor_div (abs_of e) (gcd_of e a)

-- and what the equality: -(sign e) a / gcd(e, a), so that the column cancels
abbrev pub equality_factor : ℤ → ℤ → ℤ
equality_factor e a = neg_ℤ (floor_div (sign_of e *ℤ a) (gcd_of e a))

-- a row where `fixed` is 0: the sum of both, of the row's kind, in which the column cancels
abbrev pub image_of : Row → ℕ → Row → Row
image_of fixed col row = combination (row_factor (coef_at fixed col) (coef_at row col)) row (equality_factor (coef_at fixed col) (coef_at row col)) fixed

-- where some whole number makes `fixed` 0, and the rows where it is 0
abbrev pub images_of : Row → ℕ → List Row → List Row
images_of fixed col rows = solvable fixed col ∷ map (image_of fixed col) rows

-- the first of them without the column, where it does not hold at every point
abbrev pub divisibility_of : Row → ℕ → List Row
divisibility_of fixed col = if int_eq (abs_of (coef_at fixed col)) (pos 1) then [] else dropped (solvable fixed col) col ∷ []

-- those rows without the column, but for a first one that holds at every point
abbrev pub short_images_of : Row → ℕ → List Row → List Row
short_images_of fixed col rows = divisibility_of fixed col ++ map (λ r. dropped r col) (map (image_of fixed col) rows)

-- those rows without the column in normal form; none where no point is left
abbrev pub solved_for : Row → ℕ → List Row → Option (List Row)
solved_for fixed col rows = normal_rows (map (λ r. dropped r col) (images_of fixed col rows))
