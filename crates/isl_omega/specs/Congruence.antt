-- public: congruences on one column, made one.
use Rattle.std.specs.Prelude.{◌≡◌, ◌↔◌, ℕ, ℤ, pos, ◌*ℤ◌, ◌≤ℤ◌, ◌<ℤ◌, List, [], ◌∷◌, All, length}
use Rattle.isl_math.specs.Divide.{floor_div, floor_mod, IsRemainder}
use Rattle.isl_math.specs.Gcd.{gcd_of}
use Rattle.isl_piece.specs.Numbers.{reduced}
use Rattle.isl_piece.specs.declared.row.RowKind.TheVariants.{Divides}
use Rattle.isl_piece.specs.declared.row.Row.{Row}
use Rattle.isl_meter.specs.Gauge.{Gauge}
use Rattle.isl_piece.specs.Row.{HoldsRow, IsWellFormed, IsRowWithin, coef_at}
use Rattle.isl_piece.specs.System.{HoldRows}
use Rattle.isl_omega.specs.Column.{IsFree}

-- a congruence with each number's remainder by its modulus in the number's place
abbrev pub reduced_row : Row → Row
reduced_row r = record { kind = r.kind; coefs = reduced r.k r.coefs; constant = floor_mod r.constant r.k; k = r.k }

-- a congruence over so many columns with the modulus k, whose numbers are remainders by it
pub record IsReducedCongruence (columns : ℕ) (k : ℤ) (r : Row) : Type 0 where
  pub kind : r.kind ≡ Divides
  pub modulus : r.k ≡ k
  pub width : length r.coefs ≡ columns
  pub coefs : All (IsRemainder k) r.coefs
  pub constant : IsRemainder k r.constant

-- two congruences hold together exactly where two others do
abbrev pub SayTheSame : Row → Row → Row → Row → Type 0
SayTheSame p q r s = (xs : List ℤ) → (HoldsRow p xs × HoldsRow q xs) ↔ (HoldsRow r xs × HoldsRow s xs)

-- two congruences made into others that say the same, of which only the first depends on the column
pub record AreMerged (columns col : ℕ) (k : ℤ) (p q first second : Row) : Type 0 where
  pub first_reduced : IsReducedCongruence columns k first
  pub second_reduced : IsReducedCongruence columns k second
  pub gone : coef_at second col ≡ pos 0
  pub same : SayTheSame p q first second

-- the product of the rows' divisors
abbrev pub product_of_divisors : List Row → ℤ
product_of_divisors [] = pos 1
product_of_divisors (r ∷ rows) = r.k *ℤ product_of_divisors rows

-- the period of a congruence in the column: its modulus without what it has in common with the coefficient
abbrev pub period : ℕ → Row → ℤ
period col r = floor_div r.k (gcd_of (coef_at r col) r.k)

abbrev pub product_of_periods : ℕ → List Row → ℤ
product_of_periods col [] = pos 1
product_of_periods col (r ∷ rows) = period col r *ℤ product_of_periods col rows

-- a congruence says the same as another, with its numbers remainders by k
pub record IsScaledTo (columns : ℕ) (k : ℤ) (r scaled : Row) : Type 0 where
  pub is_reduced : IsReducedCongruence columns k scaled
  pub same : (xs : List ℤ) → HoldsRow scaled xs ↔ HoldsRow r xs

-- a congruence and one more made into one and another, which does not depend on the column
pub record AreJoined (columns col : ℕ) (p q one other : Row) : Type 0 where
  pub is_reduced : IsReducedCongruence columns one.k one
  pub positive : pos 0 <ℤ one.k
  pub small : one.k ≤ℤ (p.k *ℤ q.k)
  pub well_formed : IsWellFormed columns other
  pub free : IsFree col other
  pub same : SayTheSame p q one other

-- congruences made into one and others that do not depend on the column
pub record AreMergedTo (g : Gauge) (columns col : ℕ) (rows : List Row) (one : Row) (others : List Row) : Type 0 where
  pub is_reduced : IsReducedCongruence columns one.k one
  pub positive : pos 0 <ℤ one.k
  pub within : IsRowWithin g one
  pub small : one.k ≤ℤ product_of_divisors rows
  pub well_formed : All (IsWellFormed columns) others
  pub others_within : All (IsRowWithin g) others
  pub free : All (IsFree col) others
  pub same : (xs : List ℤ) → HoldRows rows xs ↔ (HoldsRow one xs × HoldRows others xs)
