-- public: an item alone: its nest of loops, under the rows that name no further column. (isl manual, on abstract syntax trees)
use Rattle.std.specs.Prelude.{◌≡◌, ◌↔◌, ◌⊎◌, ℕ, ℤ, if◌then◌else◌, List, [], ◌++◌, All}
use Rattle.isl_piece.specs.declared.row.Row.{Row}
use Rattle.isl_piece.specs.Row.{IsWellFormed}
use Rattle.isl_piece.specs.System.{HoldRows}
use Rattle.isl_frame.specs.Frame.{columns_at}
use Rattle.isl_loop.specs.declared.tree.Loop.{Loop}
use Rattle.isl_loop.specs.Run.{idle_of, rows_hold, trace, turns_of}
use Rattle.isl_nest.specs.declared.nested.Nested.{Nested}
use Rattle.isl_nest.specs.declared.place.Place.{Place}
use Rattle.isl_loop.specs.Depth.{depth_of}
use Rattle.isl_nest.specs.Item.{HoldFront, ItemView}
use Rattle.isl_nest.specs.Nest.{with_context, IsNest}
use Rattle.isl_nest.specs.Places.{Stands}

-- nothing is called, and there is no turn
pub record IsStill (tree : Loop) : Type 0 where
  pub calls : (point : List ℤ) → trace tree point ≡ []
  pub turned : (point : List ℤ) → turns_of tree point ≡ 0
  pub idle : (point : List ℤ) → idle_of tree point ≡ 0
  pub depth : depth_of tree ≡ 0

-- Wherever the place stands the tree runs the nest where the rows hold, and those of the nest. The rows say that those of the item hold
-- which name no further column.
pub record IsUnder (item : ItemView) (left : ℕ) (place : Place) (tree : Loop) (rows : List Row) (nested : Nested) : Type 0 where
  pub nest : IsNest item left (with_context place rows) nested
  pub formed : All (IsWellFormed place.variables) rows
  pub front : (point : List ℤ) → Stands place point → HoldRows rows point ↔ HoldFront item.rows (columns_at place.frame point)
  pub calls : (point : List ℤ) → Stands place point
      → trace tree point ≡ (if rows_hold (rows ++ nested.rows) point then trace nested.tree point else [])
  pub turned : (point : List ℤ) → Stands place point
      → turns_of tree point ≡ (if rows_hold (rows ++ nested.rows) point then turns_of nested.tree point else 0)
  pub idle : (point : List ℤ) → Stands place point
      → idle_of tree point ≡ (if rows_hold (rows ++ nested.rows) point then idle_of nested.tree point else 0)
  pub depth : depth_of tree ≡ depth_of nested.tree

-- nothing, or the nest of the item
abbrev pub IsSeparate : ItemView → ℕ → Place → Loop → Type 0
IsSeparate item left place tree = IsStill tree ⊎ ((rows : List Row) × (nested : Nested) × IsUnder item left place tree rows nested)
