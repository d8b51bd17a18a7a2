-- public: a column that a loop goes through: what bounds it, and what is left to ask in the loop. (Bastoul, code generation in the
-- polyhedral model; isl manual, on abstract syntax trees)
use Rattle.std.specs.Prelude.{◌≡◌, ℕ, ◌+◌, ℤ, pos, ◌<ℤ◌, List, [], ◌∷◌, ◌++◌, All, Contains, length}
use Rattle.isl_meter.specs.Gauge.{Gauge, IsWithin}
use Rattle.isl_piece.specs.declared.row.Row.{Row}
use Rattle.isl_piece.specs.System.{HoldRows}
use Rattle.isl_frame.specs.Frame.{columns_at}
use Rattle.isl_frame.specs.Needed.{AreRowsOver}
use Rattle.isl_loop.specs.Expr.{expr_value}
use Rattle.isl_loop.specs.Formed.{IsExprOver}
use Rattle.isl_loop.specs.Turns.{turns}
use Rattle.isl_bounds.specs.Bound.{AreEnds, HoldSome}
use Rattle.isl_bounds.specs.declared.ends.Ends.{Ends}
use Rattle.isl_bounds.specs.declared.head.Head.{Head}
use Rattle.isl_bounds.specs.declared.side.Side.TheVariants.{Low, High}
use Rattle.isl_nest.specs.declared.around.Around.{Around}
use Rattle.isl_nest.specs.declared.place.Place.{Place}
use Rattle.isl_nest.specs.declared.sides.Sides.{Sides}
use Rattle.isl_nest.specs.Places.{AreGuards, Stands}
use Rattle.isl_nest.specs.Striding.{AreStriding, IsOwn}

-- Groups of bounds, one for each system: the own bounds, and those that the system is. Where the own ones and a system hold some group
-- of either side does, and where some group does the own ones do.
pub record AreSides (g : Gauge) (place : Place) (own : Ends) (systems : List (List Row)) (sides : Sides) : Type 0 where
  pub lows : All (AreEnds g place.variables Low) sides.lows.items
  pub highs : All (AreEnds g place.variables High) sides.highs.items
  pub count : (length sides.lows.items ≡ length systems) × (length sides.highs.items ≡ length systems)
  pub some : (point : List ℤ) (x : ℤ) → Stands place point → HoldRows own.low (point ++ x ∷ []) → HoldRows own.high (point ++ x ∷ [])
      → HoldSome systems (columns_at place.frame point ++ x ∷ [])
      → HoldSome sides.lows.items (point ++ x ∷ []) × HoldSome sides.highs.items (point ++ x ∷ [])
  pub low : (point : List ℤ) → HoldSome sides.lows.items point → HoldRows own.low point
  pub high : (point : List ℤ) → HoldSome sides.highs.items point → HoldRows own.high point

-- the turns of a head
abbrev pub turns_at : Head → List ℤ → List ℤ
turns_at head point = turns (expr_value head.low point) (expr_value head.high point) head.step

-- bounds over so many variables, a step above 0, and rows over the variables and one more
pub record IsAroundOver (g : Gauge) (variables : ℕ) (around : Around) : Type 0 where
  pub low : IsExprOver g variables around.head.low
  pub high : IsExprOver g variables around.head.high
  pub positive : pos 0 <ℤ around.head.step
  pub within : IsWithin g around.head.step
  pub inside : AreRowsOver g (variables + 1) around.inside
  pub guards : AreGuards g (variables + 1) around.guards

-- The head over the variables has a turn wherever the own rows and a system hold, and there the guards hold; at turns where they hold
-- the own rows do. What is known inside holds at each turn. Where the own rows, which all name the column, bound it or tell one step, the
-- guards hold at each turn.
pub record IsAround (g : Gauge) (place : Place) (rows : List Row) (systems : List (List Row)) (around : Around) : Type 0 where
  pub over : IsAroundOver g place.variables around
  pub cover : (point : List ℤ) (x : ℤ) → Stands place point → HoldRows rows (columns_at place.frame point ++ x ∷ [])
      → HoldSome systems (columns_at place.frame point ++ x ∷ [])
      → Contains (turns_at around.head point) x × HoldRows around.guards (point ++ x ∷ [])
  pub own : (point : List ℤ) (x : ℤ) → Stands place point → Contains (turns_at around.head point) x
      → HoldRows around.guards (point ++ x ∷ []) → HoldRows rows (columns_at place.frame point ++ x ∷ [])
  pub known : (point : List ℤ) (x : ℤ) → length point ≡ place.variables → Contains (turns_at around.head point) x
      → HoldRows around.inside (point ++ x ∷ [])
  pub full : All (IsOwn place.frame) rows → AreStriding place.frame rows → (point : List ℤ) (x : ℤ) → Stands place point
      → Contains (turns_at around.head point) x → HoldRows around.guards (point ++ x ∷ [])

-- nowhere do the own rows and a system hold
abbrev pub IsAroundNothing : Place → List Row → List (List Row) → Type 0
IsAroundNothing place own systems = (point : List ℤ) (x : ℤ) → Stands place point
    → HoldRows own (columns_at place.frame point ++ x ∷ []) → ¬ HoldSome systems (columns_at place.frame point ++ x ∷ [])
