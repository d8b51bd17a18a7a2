-- public: heads of loops: the numbers that a column has in turn. (isl manual, on abstract syntax trees; Bastoul, code generation in the
-- polyhedral model)
use Rattle.std.specs.Prelude.{◌≡◌, ◌↔◌, ℕ, ℤ, pos, ◌<ℤ◌, List, [], ◌∷◌, ◌++◌, Contains, length}
use Rattle.isl_meter.specs.Gauge.{Gauge, IsWithin}
use Rattle.isl_piece.specs.declared.row.Row.{Row}
use Rattle.isl_piece.specs.System.{HoldRows}
use Rattle.isl_loop.specs.Expr.{expr_value}
use Rattle.isl_loop.specs.Formed.{IsExprOver}
use Rattle.isl_loop.specs.Turns.{turns}
use Rattle.isl_bounds.specs.Bound.{HoldSome}
use Rattle.isl_bounds.specs.declared.head.Head.{Head}

-- The head over the variables has as turns exactly the numbers at which, behind these, some group of either side holds, and the other rows.
pub record IsHeadOf (g : Gauge) (variables : ℕ) (lows highs : List (List Row)) (steps : List Row) (head : Head) : Type 0 where
  pub low : IsExprOver g variables head.low
  pub high : IsExprOver g variables head.high
  pub positive : pos 0 <ℤ head.step
  pub within : IsWithin g head.step
  pub turns : (point : List ℤ) (x : ℤ) → length point ≡ variables
      → Contains (turns (expr_value head.low point) (expr_value head.high point) head.step) x
      ↔ (HoldSome lows (point ++ x ∷ []) × HoldSome highs (point ++ x ∷ []) × HoldRows steps (point ++ x ∷ []))
