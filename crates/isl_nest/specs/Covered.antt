-- public: items that nests are made of: well formed, with covers that end each column on both sides. (Bastoul, code generation in the
-- polyhedral model)
use Rattle.std.specs.Prelude.{◌≡◌, ℕ, ◌+◌, ◌^◌, ◌<◌, ◌≤◌, ℤ, List, [], All, Contains, length, slice_index_or}
use Rattle.isl_meter.specs.Gauge.{Gauge}
use Rattle.isl_piece.specs.declared.row.Row.{Row}
use Rattle.isl_piece.specs.Row.{IsWellFormed}
use Rattle.isl_frame.specs.Needed.{AreRowsOver}
use Rattle.isl_bounds.specs.Bound.{HoldSome}
use Rattle.isl_bounds.specs.Ends.{AreEnded}
use Rattle.isl_nest.specs.declared.item.Item.{Item}
use Rattle.isl_nest.specs.Item.{IsBegun, ItemView}

-- the item, without its covers
abbrev pub view_of : Item → ItemView
view_of item = record {
  name = item.name;
  params = item.params;
  levels = item.levels;
  times = item.times;
  arguments = item.arguments.items;
  rows = item.rows;
}

-- The time is among the columns, and each column behind the time is an argument.
pub record IsItem (item : ItemView) : Type 0 where
  pub formed : All (IsWellFormed (item.params + item.levels)) item.rows
  pub times : item.times ≤ item.levels
  pub arguments : All (λ at. at < item.params + item.levels) item.arguments
  pub behind : (at : ℕ) → item.params + item.times ≤ at → at < item.params + item.levels → Contains item.arguments at

-- systems over so many first columns, of which one holds wherever these begin a point of the item
pub record IsCover (g : Gauge) (item : ItemView) (columns : ℕ) (systems : List (List Row)) : Type 0 where
  pub over : All (AreRowsOver g columns) systems
  pub begun : (front : List ℤ) → length front ≡ columns → IsBegun item front → HoldSome systems front

-- a cover over the parameters, one over these and one column more, and so on; each but the first ends its last column on both sides
pub record AreCovers (g : Gauge) (item : ItemView) (covers : List (List (List Row))) : Type 0 where
  pub count : length covers ≡ item.levels + 1
  pub each : (level : ℕ) → level ≤ item.levels → IsCover g item (item.params + level) (slice_index_or covers level [])
  pub ended : (level : ℕ) → level < item.levels → All (AreEnded (item.params + level)) (slice_index_or covers (level + 1) [])

-- what a nest can be made of: not too many columns, rows within the limit, and covers
pub record IsCovered (g : Gauge) (item : Item) : Type 0 where
  pub is : IsItem (view_of item)
  pub narrow : item.params + item.levels < 2 ^ 64
  pub over : AreRowsOver g (item.params + item.levels) item.rows
  pub covers : AreCovers g (view_of item) item.covers.items
