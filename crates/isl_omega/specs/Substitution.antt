-- public: a congruence on one column as a substitution: the numbers that it allows are a progression.
use Rattle.std.specs.Prelude.{◌≡◌, ◌↔◌, ℕ, ◌-◌, ◌≤◌, ℤ, pos, ◌+ℤ◌, ◌-ℤ◌, ◌*ℤ◌, ◌<ℤ◌, List, length, unsigned_abs}
use Rattle.std.specs.List.{insert}
use Rattle.isl_math.specs.Divide.{Divides, floor_mod}
use Rattle.isl_math.specs.Dot.{weighted_sum}
use Rattle.isl_piece.specs.Numbers.{reduced}
use Rattle.isl_piece.specs.declared.row.RowKind.TheVariants.{Zero, AtLeast}
use Rattle.isl_piece.specs.declared.row.Row.{Row}
use Rattle.isl_piece.specs.Row.{HoldsRow, IsWellFormed, IsRowUpTo, coef_at}
use Rattle.isl_omega.specs.Column.{rest_at}
use Rattle.isl_piece.specs.Combine.{combination}
use Rattle.isl_omega.specs.Tighten.{IsLessened}

-- g is the greatest common divisor of a coefficient c and a divisor k, and d is the negative of an inverse of c / g modulo k / g
pub record AreProgressionParts (c k g d : ℤ) : Type 0 where
  pub positive : pos 0 <ℤ g
  pub modulus : Divides g k
  pub coefficient : Divides g c
  pub inverse : Divides modulus.quotient (coefficient.quotient *ℤ d +ℤ pos 1)
  pub small : unsigned_abs d ≤ unsigned_abs k

-- factor times a congruence's numbers, each reduced by its modulus
abbrev pub offsets_of : ℤ → Row → Row
offsets_of factor r =
    record { kind = Zero; coefs = reduced r.k (weighted_sum factor r.coefs (pos 0) r.coefs); constant = floor_mod (factor *ℤ r.constant) r.k; k = pos 1 }

-- where the congruence `one` with the modulus k holds with x at the column, scale x is k y and what `offsets` has beside the column, for
-- some y; and each y gives such an x where scale divides what stands beside the column. `offsets` has k - scale at the column
pub record IsProgressionOf (columns col : ℕ) (one : Row) (scale : ℤ) (offsets : Row) : Type 0 where
  pub positive : pos 0 <ℤ scale
  pub divides_modulus : Divides scale one.k
  pub divides_coefficient : Divides scale (coef_at one col)
  pub width : length offsets.coefs ≡ columns
  pub at_column : coef_at offsets col ≡ one.k -ℤ scale
  pub meets : (point : List ℤ) (x : ℤ) → length point ≡ columns - 1 → HoldsRow one (insert point col x) → (y : ℤ) × (scale *ℤ x ≡ one.k *ℤ y +ℤ rest_at offsets col point)
  pub gives : (point : List ℤ) (y : ℤ) → length point ≡ columns - 1 → Divides scale (rest_at one col point) → (x : ℤ) × (scale *ℤ x ≡ one.k *ℤ y +ℤ rest_at offsets col point) × HoldsRow one (insert point col x)

-- a row with the progression in the column's place: scale times the row plus its coefficient times the offsets
abbrev pub substituted : ℤ → Row → ℕ → Row → Row
substituted scale offsets col r = combination scale r (coef_at r col) offsets

-- what a coefficient at the column is multiplied by: the modulus of the congruence
abbrev pub multiplier : ℤ → Row → ℕ → ℤ
multiplier scale offsets col = scale +ℤ coef_at offsets col

-- a bound with the progression in the column's place, divided as far as it goes
pub record IsMovedBound (columns col : ℕ) (scale : ℤ) (offsets row moved : Row) : Type 0 where
  pub formed : IsWellFormed columns moved
  pub kind : moved.kind ≡ AtLeast
  pub same : (xs : List ℤ) → HoldsRow moved xs ↔ HoldsRow (substituted scale offsets col row) xs
  pub factor : IsLessened (multiplier scale offsets col *ℤ coef_at row col) (coef_at moved col)
  pub up_to : (b : ℕ) → IsRowUpTo b (substituted scale offsets col row) → IsRowUpTo b moved
