-- public: what is left of rows without one of their columns. (Pugh, the Omega test; isl manual, on projections)
use Rattle.std.specs.Prelude.{◌≡◌, ◌≢◌, ◌↔◌, ℕ, ◌-◌, ◌<◌, ℤ, pos, List, length, Any, slice_index_or}
use Rattle.std.specs.List.{insert}
use Rattle.isl_piece.specs.declared.row.RowKind.TheVariants.{Zero}
use Rattle.isl_piece.specs.declared.row.Row.{Row}
use Rattle.isl_piece.specs.Row.{coef_at}
use Rattle.isl_piece.specs.System.{HoldRows}

-- some whole number put at the column makes the rows hold
abbrev pub HoldAtSome : List Row → ℕ → List ℤ → Type 0
HoldAtSome rows col point = (x : ℤ) × HoldRows rows (insert point col x)

-- one of the lists of rows holds at the point
abbrev pub HoldAtAny : List (List Row) → List ℤ → Type 0
HoldAtAny answers point = Any (λ rows. HoldRows rows point) answers

-- one of the answers holds at a point of the other columns exactly where some whole number at the column makes the rows hold
abbrev pub IsProjectionOf : ℕ → List Row → ℕ → List (List Row) → Type 0
IsProjectionOf columns rows col answers = (point : List ℤ) → length point ≡ columns - 1 → HoldAtAny answers point ↔ HoldAtSome rows col point

-- ---- where an equality has the column
-- the row at the place is one
abbrev pub IsEqualityAt : ℕ → List Row → ℕ → Type 0
IsEqualityAt col rows at = (at < length rows) × ((d : Row) → ((slice_index_or rows at d).kind ≡ Zero) × (coef_at (slice_index_or rows at d) col ≢ pos 0))
