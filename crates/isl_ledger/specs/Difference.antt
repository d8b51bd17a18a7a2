-- public: difference constraints: rows that compare two columns, or one with a number. (Miné, difference-bound matrices; Pugh, the Omega
-- test)
use Rattle.std.specs.Prelude.{◌≡◌, ◌⊎◌, ◌<◌, ◌≤◌, ◌^◌, ℕ, ℤ, pos, negsuc, ◌-ℤ◌, List, [], All, length}
use Rattle.std.specs.Prelude.{nat_eq, if◌then◌else◌, slice_index_or, unsigned_abs}
use Rattle.isl_piece.specs.declared.row.RowKind.TheVariants.{Zero, AtLeast}
use Rattle.isl_piece.specs.declared.row.Row.{Row}
use Rattle.isl_piece.specs.declared.system.System.{System}
use Rattle.isl_piece.specs.Normal.{IsNormal}

-- the coefficient at column k of the form that is column i alone
abbrev pub one_at : ℕ → ℕ → ℤ
one_at i k = if nat_eq k i then pos 1 else pos 0

-- the coefficients of column i less column j, where a place behind the columns stands for the number 0
pub record IsComparison (cs : List ℤ) (i j : ℕ) : Type 0 where
  pub at : (k : ℕ) → k < length cs → slice_index_or cs k (pos 0) ≡ one_at i k -ℤ one_at j k

-- the number stands at one place at most
abbrev pub AtMostOnce : ℤ → List ℤ → Type 0
AtMostOnce z cs = (i j : ℕ) → i < length cs → j < length cs → slice_index_or cs i (pos 0) ≡ z → slice_index_or cs j (pos 0) ≡ z → i ≡ j

-- at most one coefficient is 1, at most one is -1, and all others are 0, which is to compare two columns
pub record AreUnitsAtMostOnce (cs : List ℤ) : Type 0 where
  pub small : All (λ c. unsigned_abs c ≤ 1) cs
  pub one : AtMostOnce (pos 1) cs
  pub minus_one : AtMostOnce (negsuc 0) cs

-- a column less another one, and a constant of so many bits, is 0 or at least 0
pub record IsDifferenceRow (bits : ℕ) (r : Row) : Type 0 where
  pub kind : (r.kind ≡ Zero) ⊎ (r.kind ≡ AtLeast)
  pub modulus : r.k ≡ pos 1
  pub first : ℕ
  pub second : ℕ
  pub compares : IsComparison r.coefs first second
  pub constant : unsigned_abs r.constant < 2 ^ bits

-- a system over at most so many columns, of which none is defined, with rows that are difference constraints, normal or not
pub record HasDifferenceRows (columns bits : ℕ) (s : System) : Type 0 where
  pub narrow : s.columns ≤ columns
  pub undefined : s.definitions ≡ []
  pub rows : All (IsDifferenceRow bits) s.rows

-- the same with normal rows
pub record IsDifferenceSystem (columns bits : ℕ) (s : System) : Type 0 where
  pub narrow : s.columns ≤ columns
  pub undefined : s.definitions ≡ []
  pub normal : IsNormal s.rows
  pub rows : All (IsDifferenceRow bits) s.rows
