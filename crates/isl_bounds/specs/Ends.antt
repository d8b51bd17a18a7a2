-- public: rows by what they say of the last of their columns. (Pugh, the Omega test)
use Rattle.std.specs.Prelude.{◌≡◌, ◌≢◌, ◌↔◌, ◌⊎◌, ℕ, ◌<◌, ℤ, pos, ◌<ℤ◌, List, All, Any, Contains, length}
use Rattle.isl_meter.specs.Gauge.{Gauge}
use Rattle.isl_piece.specs.declared.row.RowKind.TheVariants.{Zero, AtLeast, Divides, NotDivides}
use Rattle.isl_piece.specs.declared.row.Row.{Row}
use Rattle.isl_piece.specs.Row.{coef_at}
use Rattle.isl_piece.specs.System.{HoldRows}
use Rattle.isl_bounds.specs.Bound.{IsEnd}
use Rattle.isl_bounds.specs.Side.{toward}
use Rattle.isl_bounds.specs.declared.ends.Ends.{Ends}
use Rattle.isl_bounds.specs.declared.side.Side.{Side}
use Rattle.isl_bounds.specs.declared.side.Side.TheVariants.{Low, High}

-- the row bounds the column from the side
abbrev pub IsEndAt : Side → ℕ → Row → Type 0
IsEndAt side column r =
    ((r.kind ≡ Zero) × (coef_at r column ≢ pos 0)) ⊎ ((r.kind ≡ AtLeast) × (pos 0 <ℤ toward side (coef_at r column)))

-- rows that bound the column on both sides
pub record AreEnded (column : ℕ) (rows : List Row) : Type 0 where
  pub low : Any (IsEndAt Low column) rows
  pub high : Any (IsEndAt High column) rows

-- the row does not bound the column: it does not name it, or is a congruence or one that may not hold
abbrev pub IsNoEnd : ℕ → Row → Type 0
IsNoEnd variables r = (coef_at r variables ≡ pos 0) ⊎ (r.kind ≡ Divides) ⊎ (r.kind ≡ NotDivides)

-- the rows, taken apart: bounds from below and from above, some where a row is one, and those of the rows that are none
pub record AreEndsOf (g : Gauge) (variables : ℕ) (rows : List Row) (ends : Ends) : Type 0 where
  pub low : All (IsEnd g variables Low) ends.low
  pub high : All (IsEnd g variables High) ends.high
  pub others : All (λ r. Contains rows r × IsNoEnd variables r) ends.others
  pub points : (point : List ℤ) → HoldRows rows point ↔ (HoldRows ends.low point × HoldRows ends.high point × HoldRows ends.others point)
  pub some_low : Any (IsEndAt Low variables) rows → 0 < length ends.low
  pub some_high : Any (IsEndAt High variables) rows → 0 < length ends.high
