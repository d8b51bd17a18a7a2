-- public: which values are kept of affine hulls. (isl manual, on affine hulls)
use Rattle.std.specs.Prelude.{◌↔◌}
use Rattle.isl_space.specs.Element.{Element}
use Rattle.isl_space.specs.Valuation.{Valuation}
use Rattle.isl_union.specs.KeptValue.{KeptValue, Has}
use Rattle.isl_hull.specs.Hull.{HullHas, IsHullOf}
use Rattle.isl_tree.specs.declared.statement.Expr.{Expr}
use Rattle.isl_kinds.specs.Typed.{declared_of}
use Rattle.isl_state.specs.State.{StateView, AtAssumed, scope_of}
use Rattle.isl_values.specs.Selection.{Selects}

-- At every valuation, assumed or not, the value has exactly the affine hull of what the operand selects at assumed ones. It is one piece
-- for each space, of equations, none of which is implied by the others (`IsHullOf`).
pub record IsWholeHull (state : StateView) (operand : Expr) (value : KeptValue) : Type 0 where
  pub elements : (valuation : Valuation) (element : Element) → Has value valuation element
      ↔ HullHas (declared_of (scope_of state) operand) (AtAssumed state (Selects state operand)) valuation element
  pub pieces : (asked : KeptValue) × IsHullOf asked value
