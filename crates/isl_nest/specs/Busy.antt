-- public: nests of loops in which something is called in each turn. (isl manual, on abstract syntax trees)
use Rattle.std.specs.Prelude.{◌≡◌, ◌≢◌, ℕ, ◌*◌, ◌≤◌, ℤ, true, List, [], length}
use Rattle.isl_loop.specs.Run.{idle_of, rows_hold, trace, turns_of, Event}
use Rattle.isl_nest.specs.declared.nested.Nested.{Nested}

-- So many calls, turns and idle turns: no turn is idle, and there are at most so many times the calls.
pub record HasNoIdleTurn (times : ℕ) (calls : List Event) (turns idle : ℕ) : Type 0 where
  pub none : idle ≡ 0
  pub few : turns ≤ times * length calls

-- The nest's rows hold at the point, its tree calls something there, and so does each of its turns; these are at most so many times the
-- calls.
pub record IsBusy (times : ℕ) (nested : Nested) (point : List ℤ) : Type 0 where
  pub asked : rows_hold nested.rows point ≡ true
  pub some : trace nested.tree point ≢ []
  pub idle : idle_of nested.tree point ≡ 0
  pub turned : turns_of nested.tree point ≤ times * length (trace nested.tree point)
