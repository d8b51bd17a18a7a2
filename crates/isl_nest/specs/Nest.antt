-- public: the shape of a nest of loops: at each level its column is told by an equality, or gone through by a loop; the item's rows are
-- enforced where the last column that they name gets its number. (Bastoul, code generation in the polyhedral model; isl manual, on
-- abstract syntax trees)
use Rattle.std.specs.Prelude.{◌≡◌, ◌⊎◌, ℕ, zero, suc, ◌+◌, ◌≤◌, ℤ, pos, ◌<ℤ◌, if◌then◌else◌, List, [], ◌∷◌, ◌++◌, length, map}
use Rattle.std.specs.List.{All, AllPairs, Contains, sum_by}
use Rattle.isl_meter.specs.Gauge.{Gauge}
use Rattle.isl_piece.specs.declared.row.Row.{Row}
use Rattle.isl_piece.specs.Row.{HoldsRow, IsWellFormed}
use Rattle.isl_piece.specs.System.{HoldRows, widened}
use Rattle.isl_frame.specs.Frame.{column_at, columns_at, own_column, IsFrame}
use Rattle.isl_frame.specs.Needed.{AreRowsOver}
use Rattle.isl_loop.specs.declared.tree.Loop.{Loop}
use Rattle.isl_loop.specs.Formed.{IsLoopOver}
use Rattle.isl_loop.specs.Nest.{Lists}
use Rattle.isl_loop.specs.Run.{each_in, idle_of, rows_hold, trace, turns_of}
use Rattle.isl_loop.specs.Depth.{depth_of}
use Rattle.isl_nest.specs.TurnsAt.{idle_at_turn, turns_at_turn}
use Rattle.isl_nest.specs.declared.nested.Nested.{Nested}
use Rattle.isl_nest.specs.declared.place.Place.{Place}
use Rattle.isl_nest.specs.Item.{timed_at, HoldFront, HoldOwn, IsBegun, IsCalledBehind, ItemView}
use Rattle.isl_nest.specs.Places.{AreGuards, Stands}
use Rattle.isl_nest.specs.Striding.{AreStriding, Asks}

-- the place holds at numbers of the parameters and variables, and so do the item's rows that name no further column
pub record IsHere (item : ItemView) (place : Place) (point : List ℤ) : Type 0 where
  pub width : length point ≡ place.variables
  pub context : HoldRows place.context point
  pub whole : HoldRows place.frame point
  pub front : HoldFront item.rows (columns_at place.frame point)

-- more rows
abbrev pub with_context : Place → List Row → Place
with_context place rows = record { variables = place.variables; frame = place.frame; context = place.context ++ rows }

-- one column more
abbrev pub with_entry : Place → Row → List Row → Place
with_entry place entry rows = record { variables = place.variables; frame = place.frame ++ entry ∷ []; context = place.context ++ rows }

abbrev pub with_loop : Place → List Row → Place
with_loop place rows = record {
  variables = place.variables + 1;
  frame = map widened place.frame ++ own_column place.variables ∷ [];
  context = map widened place.context ++ rows;
}

-- ---- the parts
-- no point begins here
abbrev pub IsNowhere : ItemView → Place → Type 0
IsNowhere item place = (point : List ℤ) → IsHere item place point → ¬ IsBegun item (columns_at place.frame point)

-- behind the last column there is one call, and no loop
pub record IsCallAt (item : ItemView) (place : Place) (tree : Loop) : Type 0 where
  pub call : (point : List ℤ) → IsHere item place point → trace tree point ≡ (timed_at item (columns_at place.frame point)).1 ∷ []
  pub turned : (point : List ℤ) → turns_of tree point ≡ 0
  pub idle : (point : List ℤ) → idle_of tree point ≡ 0
  pub depth : depth_of tree ≡ 0

-- The next column is the quotient that the entry tells. Where the rows hold it is whole, and its own rows hold; at points nothing else is.
-- It is a form, or behind the time, or no congruence of a later column names it.
pub record IsFixedAt (item : ItemView) (place : Place) (entry : Row) (rows : List Row) : Type 0 where
  pub framed : IsFrame place.variables (place.frame ++ entry ∷ [])
  pub formed : All (IsWellFormed place.variables) rows
  pub only : (point : List ℤ) (x : ℤ) → IsHere item place point → IsBegun item (columns_at place.frame point ++ x ∷ [])
      → (x ≡ column_at point entry) × HoldRows rows point
  pub own : (point : List ℤ) → IsHere item place point → HoldRows rows point
      → HoldsRow entry point × HoldOwn item.rows (columns_at place.frame point ++ column_at point entry ∷ [])
  pub form : (entry.k ≡ pos 1) ⊎ (item.params + item.times ≤ length place.frame)
      ⊎ All (λ later. ¬ Asks (length place.frame) later) item.rows

-- The next column is a loop's variable, whose turns ascend. Each point's is a turn; where the guards hold at a turn, its own rows do.
-- What is known inside holds at each turn, whether the context holds or not. Where its own rows bound the column or tell one step, the
-- guards hold at each turn.
pub record IsLoopedAt (item : ItemView) (place : Place) (turns : List ℤ → List ℤ) (inside guards : List Row) : Type 0 where
  pub framed : IsFrame place.variables place.frame
  pub formed : All (IsWellFormed place.variables) place.context × All (IsWellFormed (place.variables + 1)) (inside ++ guards)
  pub up : (point : List ℤ) → AllPairs (λ x y. x <ℤ y) (turns point)
  pub cover : (point : List ℤ) (x : ℤ) → IsHere item place point → IsBegun item (columns_at place.frame point ++ x ∷ [])
      → Contains (turns point) x × HoldRows guards (point ++ x ∷ [])
  pub own : (point : List ℤ) (x : ℤ) → IsHere item place point → Contains (turns point) x → HoldRows guards (point ++ x ∷ [])
      → HoldOwn item.rows (columns_at place.frame point ++ x ∷ [])
  pub known : (point : List ℤ) (x : ℤ) → length point ≡ place.variables → Contains (turns point) x → HoldRows inside (point ++ x ∷ [])
  pub full : AreStriding place.frame item.rows → (point : List ℤ) (x : ℤ) → IsHere item place point → Contains (turns point) x
      → HoldRows guards (point ++ x ∷ [])

-- The tree goes through these turns: at each it runs the body, if the rows hold there; without a turn it does nothing. Turns at which the rows
-- hold nowhere may be left out.
pub record IsLoopOf (item : ItemView) (place : Place) (tree : Loop) (turns : List ℤ → List ℤ) (rows : List Row) (body : Loop)
    : Type 0 where
  pub calls : (point : List ℤ) → IsHere item place point
      → trace tree point
      ≡ each_in (λ x. if rows_hold rows (point ++ x ∷ []) then trace body (point ++ x ∷ []) else []) (turns point)
  pub none : (point : List ℤ) → turns point ≡ [] → trace tree point ≡ []
  pub turned : (point : List ℤ) → length point ≡ place.variables
      → turns_of tree point ≤ sum_by (λ x. turns_at_turn rows body (point ++ x ∷ [])) (turns point)
  pub idle : (point : List ℤ) → length point ≡ place.variables
      → idle_of tree point ≤ sum_by (λ x. idle_at_turn rows body (point ++ x ∷ [])) (turns point)
  pub depth : depth_of tree ≡ suc (depth_of body)

-- rows to ask, a tree and rows of its loop that are well formed over so many variables
pub record IsNestOver (g : Gauge) (variables : ℕ) (nested : Nested) : Type 0 where
  pub rows : AreGuards g variables nested.rows
  pub tree : IsLoopOver g variables nested.tree
  pub inside : AreRowsOver g (variables + 1) nested.inside

-- ---- the nest
-- with so many levels left
abbrev pub IsNest : ItemView → ℕ → Place → Nested → Type 0
IsNest item zero place nested = (nested.rows ≡ []) × (nested.inside ≡ []) × IsCallAt item place nested.tree
IsNest item (suc left) place nested =
    ((entry : Row) × (rows : List Row) × (more : List Row) × IsFixedAt item place entry rows × (nested.rows ≡ rows ++ more)
    × IsNest item left (with_entry place entry rows) (record { rows = more; tree = nested.tree; inside = nested.inside }))
    ⊎ ((turns : List ℤ → List ℤ) × (guards : List Row) × (body : Nested) × IsLoopedAt item place turns nested.inside guards
    × (nested.rows ≡ []) × IsLoopOf item place nested.tree turns (guards ++ body.rows) body.tree
    × IsNest item left (with_loop place (nested.inside ++ guards)) body)

-- what is to be shown of it: the tree lists the calls behind the columns, in the order of their times, wherever its rows are asked first
abbrev pub ListsNest : ItemView → Place → Nested → Type 0
ListsNest item place nested = (point : List ℤ) → IsHere item place point
    → Lists (IsCalledBehind item (columns_at place.frame point)) (if rows_hold nested.rows point then trace nested.tree point else [])

-- the tree lists them wherever the place stands, whatever the item's rows say of the columns so far
abbrev pub ListsBehind : ItemView → Place → Loop → Type 0
ListsBehind item place tree = (point : List ℤ) → Stands place point
    → Lists (IsCalledBehind item (columns_at place.frame point)) (trace tree point)
