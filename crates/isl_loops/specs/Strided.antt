-- public: strided sets, and trees of loops that are never idle. (Bastoul, code generation in the polyhedral model; isl manual, on abstract
-- syntax trees)
use Rattle.std.specs.Prelude.{ℕ, ◌≤◌, List, length}
use Rattle.isl_space.specs.Form.{Form, width_of}
use Rattle.isl_space.specs.Name.{Name}
use Rattle.isl_space.specs.Valuation.{Valuation, values_of}
use Rattle.isl_piece.specs.declared.row.Row.{Row}
use Rattle.isl_loop.specs.declared.tree.Loop.{Loop}
use Rattle.isl_loop.specs.Run.{idle_of, trace, turns_of}
use Rattle.isl_loop.specs.Depth.{depth_of}
use Rattle.isl_union.specs.KeptValue.{KeptValue}
use Rattle.isl_calls.specs.Calls.{IsSetOf}
use Rattle.isl_nest.specs.Busy.{HasNoIdleTurn}
use Rattle.isl_nest.specs.Strided.{IsStrided}

-- the value is one piece, a set, whose rows are strided
pub record IsStridedSet (value : KeptValue) : Type 0 where
  pub form : Form
  pub rows : List Row
  pub set : IsSetOf form rows value
  pub strided : IsStrided (length value.params) (width_of form) rows

-- At every valuation no turn of a loop is idle, and there are at most so many times as many turns as calls; and no more loops than that
-- stand in one another.
pub record IsNeverIdle (params : List Name) (times : ℕ) (tree : Loop) : Type 0 where
  pub turns : (valuation : Valuation) → HasNoIdleTurn times (trace tree (values_of params valuation))
      (turns_of tree (values_of params valuation)) (idle_of tree (values_of params valuation))
  pub depth : depth_of tree ≤ times
