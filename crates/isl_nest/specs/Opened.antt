-- inner: the rows that a tree asks first, and what runs where they hold.
use Rattle.std.specs.Prelude.{◌≡◌, ◌≢◌, ◌&&◌, ℕ, ◌+◌, ℤ, pos, if◌then◌else◌, List, [], ◌∷◌, ◌++◌, All, length}
use Rattle.isl_meter.specs.Gauge.{Gauge}
use Rattle.isl_piece.specs.declared.row.Row.{Row}
use Rattle.isl_piece.specs.Row.{coef_at}
use Rattle.isl_loop.specs.declared.tree.Loop.{Loop}
use Rattle.isl_loop.specs.Formed.{IsLoopOver, IsRowOver}
use Rattle.isl_loop.specs.Printable.{IsPrintable}
use Rattle.isl_loop.specs.Run.{idle_of, rows_hold, trace, turns_of}
use Rattle.isl_nest.specs.Changing.{asked_first, AsksWhatChanges}
use Rattle.isl_loop.specs.Depth.{depth_of}

-- the tree runs the inner one where the rows hold
pub record RunsUnder (rows : List Row) (inner tree : Loop) : Type 0 where
  pub calls : (point : List ℤ) → trace tree point ≡ (if rows_hold rows point then trace inner point else [])
  pub turned : (point : List ℤ) → turns_of tree point ≡ (if rows_hold rows point then turns_of inner point else 0)
  pub idle : (point : List ℤ) → idle_of tree point ≡ (if rows_hold rows point then idle_of inner point else 0)
  pub depth : depth_of tree ≡ depth_of inner

-- the tree is the inner one under the rows that it asks first
pub record IsOpened (tree : Loop) (rows : List Row) (inner : Loop) : Type 0 where
  pub runs : RunsUnder rows inner tree
  pub first : asked_first tree ≡ rows
  pub over : (g : Gauge) (n : ℕ) → IsLoopOver g n tree → All (IsRowOver g n) rows × IsLoopOver g n inner
  pub changing : (n : ℕ) → AsksWhatChanges n tree → (asked_first inner ≡ []) × AsksWhatChanges n inner
  pub printable : (n : ℕ) → IsPrintable n tree → IsPrintable n inner

-- Of the rows, those outside are over so many variables, and hold with those inside where the rows do, whatever the number of one variable
-- more. Those inside name that one.
pub record AreParted (variables : ℕ) (rows outside inside : List Row) : Type 0 where
  pub hold : (point : List ℤ) (x : ℤ) → length point ≡ variables
      → rows_hold rows (point ++ x ∷ []) ≡ (rows_hold outside point && rows_hold inside (point ++ x ∷ []))
  pub name : All (λ r. coef_at r variables ≢ pos 0) inside
  pub over : (g : Gauge) → All (IsRowOver g (variables + 1)) rows
      → All (IsRowOver g variables) outside × All (IsRowOver g (variables + 1)) inside
