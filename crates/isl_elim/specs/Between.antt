-- inner: the number at one column that an equality and bounds tell, which have it once. (Miné, difference-bound matrices)
use Rattle.std.specs.Prelude.{◌≡◌, ◌⊎◌, ◌<◌, ◌≤◌, ◌+◌, ◌^◌, ℕ, ℤ, pos, ◌+ℤ◌, ◌*ℤ◌, ◌≤ℤ◌, List, All, IfSome, MatchOption, length, take, slice_index_or, slice_set, unsigned_abs}
use Rattle.std.specs.Prelude.{◌*◌, Option, Result, MatchResult, negsuc}
use Rattle.isl_math.specs.Dot.{dot}
use Rattle.isl_ledger.specs.Difference.{IsDifferenceRow}
use Rattle.isl_piece.specs.declared.row.RowKind.TheVariants.{Zero, AtLeast}
use Rattle.isl_meter.specs.Gauge.{Gauge, IsWithin}
use Rattle.isl_piece.specs.declared.row.RowKind.{RowKind}
use Rattle.isl_piece.specs.declared.row.Row.{Row}
use Rattle.isl_piece.specs.Row.{HoldsValue}
use Rattle.isl_piece.specs.System.{HoldRows}
use Rattle.isl_elim.specs.declared.between.Bounds.{Bounds}

-- ---- one number
-- the number is what the equality tells, and within the bounds, where they are
pub record IsInside (bounds : Bounds) (y : ℤ) : Type 0 where
  pub exact : IfSome bounds.exact (λ e. y ≡ e)
  pub least : IfSome bounds.least (λ l. l ≤ℤ y)
  pub greatest : IfSome bounds.greatest (λ u. y ≤ℤ u)

-- x serves where y does: it is y where an equality tells it, and else within the bounds
pub record Serves (bounds : Bounds) (x y : ℤ) : Type 0 where
  pub serves : MatchOption bounds.exact (IfSome bounds.least (λ l. l ≤ℤ x) × IfSome bounds.greatest (λ u. x ≤ℤ u)) (λ e. x ≡ y)

-- each number of the bounds is at most w in magnitude
pub record AreUpTo (w : ℕ) (bounds : Bounds) : Type 0 where
  pub exact : IfSome bounds.exact (λ e. unsigned_abs e ≤ w)
  pub least : IfSome bounds.least (λ l. unsigned_abs l ≤ w)
  pub greatest : IfSome bounds.greatest (λ u. unsigned_abs u ≤ w)

-- what is left of bounds where a row of the kind has so many times the number and a value
pub record IsMetBy (kind : RowKind) (number value : ℤ) (old new : Bounds) : Type 0 where
  pub inside : (k y : ℤ) → IsInside old y → HoldsValue kind k (value +ℤ number *ℤ y) → IsInside new y
  pub serves : (k x y : ℤ) → IsInside old y → HoldsValue kind k (value +ℤ number *ℤ y) → Serves new x y
      → Serves old x y × HoldsValue kind k (value +ℤ number *ℤ x)
  pub small : (w : ℕ) → unsigned_abs value ≤ w → AreUpTo w old → AreUpTo w new

-- an equality or a bound, with the coefficient 1 or -1
pub record IsUnitBound (asked : RowKind) (number : ℤ) : Type 0 where
  pub unit : (number ≡ pos 1) ⊎ (number ≡ negsuc 0)
  pub kind : (asked ≡ Zero) ⊎ (asked ≡ AtLeast)

-- ---- rows
-- a product of the form at the point, or the constant with the first products, passes the limit
abbrev pub SumPassesLimit : Gauge → ℤ → List ℤ → List ℤ → Type 0
SumPassesLimit g c cs xs =
    (i : ℕ) × (i < length cs)
    × ((¬ IsWithin g (slice_index_or cs i (pos 0) *ℤ slice_index_or xs i (pos 0))) ⊎ (¬ IsWithin g (c +ℤ dot (take i cs) (take i xs) +ℤ slice_index_or cs i (pos 0) *ℤ slice_index_or xs i (pos 0))))

-- difference constraints with constants of so many bits, at a point of numbers up to w, for which the limit has room
pub record AreSmallAt (g : Gauge) (bits w : ℕ) (given : List Row) (numbers : List ℤ) : Type 0 where
  pub rows : All (IsDifferenceRow bits) given
  pub point : All (λ x. unsigned_abs x ≤ w) numbers
  pub room : 2 ^ bits + 2 * w < 2 ^ g.bits

-- a number was found, of a magnitude of at most w
abbrev pub IsFoundUpTo : {E : Type 0} → ℕ → Result (Option ℤ) E → Type 0
IsFoundUpTo w result = MatchResult result (λ found. MatchOption found ⊥ (λ x. unsigned_abs x ≤ w)) (λ _. ⊥)

-- wherever the rows hold with some number at the column, they hold with this one
abbrev pub IsBest : List Row → List ℤ → ℕ → ℤ → Type 0
IsBest rows point col x = (y : ℤ) → HoldRows rows (slice_set point col y) → HoldRows rows (slice_set point col x)
