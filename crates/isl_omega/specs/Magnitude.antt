-- public: how large the numbers become.
use Rattle.std.specs.Prelude.{◌≢◌, ◌^◌, ◌≤◌, ℕ, All, Result, MatchResult, unsigned_abs}
use Rattle.isl_meter.specs.declared.Cut.{Cut}
use Rattle.isl_meter.specs.declared.Cut.TheVariants.{Overflow}
pub use Rattle.isl_piece.specs.Cut.{IsNoOverflow}
use Rattle.isl_piece.specs.declared.row.Row.{Row}
use Rattle.isl_piece.specs.Row.{IsRowUpTo, coef_at}
use Rattle.isl_omega.specs.declared.sides.Sides.{Sides}

-- the numbers of rows that are given
abbrev pub given_magnitude : ℕ
given_magnitude = 2 ^ 30

-- those of rows into which a progression was put, or that an equation has gone through
abbrev pub substituted_magnitude : ℕ
substituted_magnitude = 2 ^ 61

-- those of rows that are paired, and of the last value of a lower bound
abbrev pub paired_magnitude : ℕ
paired_magnitude = 2 ^ 62

-- those of a lower bound that is fixed at one of its values
abbrev pub fixed_magnitude : ℕ
fixed_magnitude = 2 ^ 63

-- each number of the row is at most w in magnitude, and the coefficient at the column at most u
pub record IsRowUpToAt (col u w : ℕ) (r : Row) : Type 0 where
  pub factor : unsigned_abs (coef_at r col) ≤ u
  pub numbers : IsRowUpTo w r

-- a result of P, or work ended for another reason
abbrev pub IsNoOverflowWith : {A : Type 0} → (A → Type 0) → Result A Cut → Type 0
IsNoOverflowWith P result = MatchResult result P (λ cut. cut ≢ Overflow)

-- each number of the sides is at most b in magnitude
pub record AreSidesUpTo (b : ℕ) (sides : Sides) : Type 0 where
  pub lowers : All (IsRowUpTo b) sides.lowers
  pub uppers : All (IsRowUpTo b) sides.uppers
  pub divides : All (IsRowUpTo b) sides.divides
  pub not_divides : All (IsRowUpTo b) sides.not_divides
  pub free : All (IsRowUpTo b) sides.free
