-- inner: systems over a front and two lists of numbers, of which the second is ahead.
use Rattle.std.specs.Prelude.{◌≡◌, ◌↔◌, ◌++◌, ◌+◌, ℕ, ℤ, List, [], length}
use Rattle.isl_meter.specs.Gauge.{Gauge}
use Rattle.isl_piece.specs.declared.system.System.{System}
use Rattle.isl_piece.specs.System.{HoldsSystem, IsSystemWithin, free_columns}
use Rattle.isl_blocks.specs.Cases.{DiffersAt}
use Rattle.isl_extremes.specs.declared.systems.Order.{Order}

-- the system holds at a front, ys and zs where the other one does at the front and zs, and zs is ahead of ys at the place
pub record IsWithAhead (g : Gauge) (order : Order) (at : ℕ) (system made : System) : Type 0 where
  pub points : (front ys zs : List ℤ) → length front ≡ order.front → length ys ≡ order.width → length zs ≡ order.width
      → HoldsSystem made (front ++ (ys ++ zs)) ↔ (HoldsSystem system (front ++ zs) × DiffersAt order.direction at zs ys)
  pub within : IsSystemWithin g made
  pub free : free_columns made ≡ order.front + (order.width + order.width)
  pub plain : system.definitions ≡ [] → made.definitions ≡ []
