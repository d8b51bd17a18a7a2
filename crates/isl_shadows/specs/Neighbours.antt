-- inner: how many whole numbers in a row are enough, so that rows that moduli must not divide are met at one of them. (Jacobsthal's function,
-- for any periods)
use Rattle.std.specs.Prelude.{◌≡◌, not, ℕ, ◌-◌, ℤ, pos, ◌+ℤ◌, ◌≤ℤ◌, List, Any, filter, length}
use Rattle.std.specs.Ordering.{int_eq}
use Rattle.isl_math.specs.Divide.{floor_mod}
use Rattle.isl_piece.specs.declared.row.Row.{Row}
use Rattle.isl_omega.specs.Column.{HoldAt}

-- of a whole number at the column and so many behind it at least one meets the rows, whatever stands at the other columns
pub record IsMetWithin (columns col : ℕ) (rows : List Row) (neighbours : ℤ) : Type 0 where
  pub not_negative : pos 0 ≤ℤ neighbours
  pub met : (point : List ℤ) (x : ℤ) → length point ≡ columns - 1 → (t : ℤ) × (pos 0 ≤ℤ t) × (t ≤ℤ neighbours) × HoldAt rows col point (x +ℤ t)

-- one of the numbers, counted from x, meets the rows
abbrev pub IsMetAmong : List Row → ℕ → List ℤ → ℤ → List ℤ → Type 0
IsMetAmong rows col point x numbers = Any (λ n. HoldAt rows col point (x +ℤ n)) numbers

-- one does, whatever x is and whatever stands at the other columns
abbrev pub AreMetAmong : ℕ → ℕ → List Row → List ℤ → Type 0
AreMetAmong columns col rows numbers = (point : List ℤ) (x : ℤ) → length point ≡ columns - 1 → IsMetAmong rows col point x numbers

-- the numbers that do not leave what another one does when divided by the period
abbrev pub others_than : ℤ → ℤ → List ℤ → List ℤ
others_than period number numbers = filter (λ n. not (int_eq (floor_mod n period) (floor_mod number period))) numbers

-- a row is one of the rows
abbrev pub Has : List Row → Row → Type 0
Has rows r = Any (λ q. q ≡ r) rows
