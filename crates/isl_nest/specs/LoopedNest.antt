-- public: a body in a loop.
use Rattle.std.specs.Prelude.{◌≡◌, ◌≤◌, ℕ, suc, ℤ, if◌then◌else◌, List, [], ◌∷◌, ◌++◌, length}
use Rattle.std.specs.List.{sum_by}
use Rattle.isl_loop.specs.Run.{each_in, idle_of, rows_hold, trace, turns_of}
use Rattle.isl_loop.specs.Depth.{depth_of}
use Rattle.isl_nest.specs.TurnsAt.{idle_at_turn, turns_at_turn}
use Rattle.isl_nest.specs.declared.around.Around.{Around}
use Rattle.isl_nest.specs.declared.nested.Nested.{Nested}
use Rattle.isl_nest.specs.Around.{turns_at}

-- The loop over the head, in which the body runs where the guards and its rows hold: at numbers of so many variables it has the same calls, and
-- no more turns and idle ones. Without a turn it does nothing.
pub record IsLoopedNest (variables : ℕ) (around : Around) (body nested : Nested) : Type 0 where
  pub rows : nested.rows ≡ []
  pub inside : nested.inside ≡ around.inside
  pub calls : (point : List ℤ) → length point ≡ variables
      → trace nested.tree point
      ≡ each_in (λ x. if rows_hold (around.guards ++ body.rows) (point ++ x ∷ []) then trace body.tree (point ++ x ∷ []) else [])
      (turns_at around.head point)
  pub none : (point : List ℤ) → turns_at around.head point ≡ [] → trace nested.tree point ≡ []
  pub turned : (point : List ℤ) → length point ≡ variables → turns_of nested.tree point
      ≤ sum_by (λ x. turns_at_turn (around.guards ++ body.rows) body.tree (point ++ x ∷ [])) (turns_at around.head point)
  pub idle : (point : List ℤ) → length point ≡ variables → idle_of nested.tree point
      ≤ sum_by (λ x. idle_at_turn (around.guards ++ body.rows) body.tree (point ++ x ∷ [])) (turns_at around.head point)
  pub depth : depth_of nested.tree ≡ suc (depth_of body.tree)
