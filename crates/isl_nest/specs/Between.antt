-- public: a loop between groups of bounds. (Bastoul, code generation in the polyhedral model)
use Rattle.std.specs.Prelude.{◌≡◌, ℤ, List, [], ◌∷◌, ◌++◌, Contains, length}
use Rattle.isl_meter.specs.Gauge.{Gauge}
use Rattle.isl_piece.specs.declared.row.Row.{Row}
use Rattle.isl_piece.specs.System.{HoldRows}
use Rattle.isl_bounds.specs.Bound.{HoldSome}
use Rattle.isl_nest.specs.declared.around.Around.{Around}
use Rattle.isl_nest.specs.declared.place.Place.{Place}
use Rattle.isl_nest.specs.declared.sides.Sides.{Sides}
use Rattle.isl_nest.specs.Around.{turns_at, IsAroundOver}
use Rattle.isl_nest.specs.Stepping.{TellOneStep}

-- Between the groups: the head has a turn wherever the context, some group of either side and the other rows hold, and there the guards
-- hold; at turns where they hold so do these. What is known inside holds at each turn. At a turn where the other rows tell one step, the
-- guards hold.
pub record IsBetween (g : Gauge) (place : Place) (sides : Sides) (others : List Row) (around : Around) : Type 0 where
  pub over : IsAroundOver g place.variables around
  pub cover : (point : List ℤ) (x : ℤ) → length point ≡ place.variables → HoldRows place.context point
      → HoldSome sides.lows.items (point ++ x ∷ []) → HoldSome sides.highs.items (point ++ x ∷ []) → HoldRows others (point ++ x ∷ [])
      → Contains (turns_at around.head point) x × HoldRows around.guards (point ++ x ∷ [])
  pub own : (point : List ℤ) (x : ℤ) → length point ≡ place.variables → HoldRows place.context point
      → Contains (turns_at around.head point) x → HoldRows around.guards (point ++ x ∷ [])
      → HoldSome sides.lows.items (point ++ x ∷ []) × HoldSome sides.highs.items (point ++ x ∷ []) × HoldRows others (point ++ x ∷ [])
  pub known : (point : List ℤ) (x : ℤ) → length point ≡ place.variables → Contains (turns_at around.head point) x
      → HoldRows around.inside (point ++ x ∷ [])
  pub full : (point : List ℤ) (x : ℤ) → length point ≡ place.variables → HoldRows place.context point
      → Contains (turns_at around.head point) x → TellOneStep place.variables others (point ++ x ∷ []) → HoldRows around.guards (point ++ x ∷ [])
