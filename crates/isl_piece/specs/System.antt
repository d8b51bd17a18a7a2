-- public: what a system says of a point: the conjunction of its rows, at the numbers of its free columns and those that its definitions
-- give. (isl manual, on basic sets and integer divisions)
use Rattle.std.specs.Prelude.{ℕ, ◌+◌, ◌-◌, ◌≤◌, ◌⊎◌, ℤ, pos, List, [], ◌∷◌, ◌++◌, All, Any, length, map}
use Rattle.isl_meter.specs.Gauge.{Gauge}
use Rattle.isl_piece.specs.declared.row.Row.{Row}
use Rattle.isl_piece.specs.declared.definition.Definition.{Definition}
use Rattle.isl_piece.specs.declared.system.System.{System}
use Rattle.isl_piece.specs.Definition.{with_defined, AreDefinitions, DefinitionPassesLimit}
use Rattle.isl_piece.specs.Row.{HoldsRow, IsWellFormed, IsRowWithin, FormPassesLimit}

-- each of the rows holds at a point
abbrev pub HoldRows : List Row → List ℤ → Type 0
HoldRows rows xs = All (λ r. HoldsRow r xs) rows

-- the system holds at a point of its free columns
abbrev pub HoldsSystem : System → List ℤ → Type 0
HoldsSystem s point = HoldRows s.rows (with_defined s.definitions point)

-- the number of columns without a definition, which come first
abbrev pub free_columns : System → ℕ
free_columns s = s.columns - length s.definitions

-- each row is one over the system's columns, and each definition over those before its own, with their numbers within the limit
pub record IsSystemWithin (g : Gauge) (s : System) : Type 0 where
  pub rows : All (IsWellFormed s.columns) s.rows
  pub within : All (IsRowWithin g) s.rows
  pub count : length s.definitions ≤ s.columns
  pub definitions : AreDefinitions g (free_columns s) s.definitions

-- a row with the coefficient 0 at one more column
abbrev pub widened : Row → Row
widened r = record { kind = r.kind; coefs = r.coefs ++ pos 0 ∷ []; constant = r.constant; k = r.k }

-- the system with one more column, which is last and has the definition
abbrev pub with_definition : System → Definition → System
with_definition s d = record { columns = s.columns + 1; definitions = s.definitions ++ d ∷ []; rows = map widened s.rows }

-- the form of a definition, or of a row, passes the limit at a point
unfoldable pub SystemPassesLimit : Gauge → System → List ℤ → Type 0
SystemPassesLimit g s point =
    DefinitionPassesLimit g s.definitions point ⊎ Any (λ r. FormPassesLimit g r.coefs r.constant (with_defined s.definitions point)) s.rows
