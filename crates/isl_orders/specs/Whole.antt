-- public: the order of all elements of one form. (isl manual, lexicographic order)
use Rattle.std.specs.Prelude.{◌≡◌, List, [], ◌∷◌, map}
use Rattle.isl_space.specs.Element.{Element}
use Rattle.isl_space.specs.Form.{Form, width_of}
use Rattle.isl_space.specs.SpaceForm.{map_of, set_of}
use Rattle.isl_space.specs.declared.fault.SpaceFault.{SpaceFault}
use Rattle.isl_space.specs.declared.fault.SpaceFault.TheVariants as space_fault
use Rattle.isl_piece.specs.Piece.{PieceView}
use Rattle.isl_piece.specs.declared.system.System.{System}
use Rattle.isl_union.specs.Minus.{piece_in}
use Rattle.isl_relation.specs.Orders.{OrderedSetsHas}
use Rattle.isl_relation.specs.Point.{Point}
use Rattle.isl_orders.specs.declared.order.Order.{Order}
use Rattle.isl_orders.specs.Cases.{AreCasesOf}
use Rattle.isl_orders.specs.Comparison.{AreOrdered}

-- the element is one of a set of this form
abbrev pub IsOfForm : Form → Element → Type 0
IsOfForm form element = element.space ≡ set_of form

-- x → y of this form, with x and y so ordered
abbrev pub OrderHas : (Point → Point → Type 0) → Form → Element → Type 0
OrderHas Ordered form element = OrderedSetsHas Ordered (IsOfForm form) (IsOfForm form) element

-- ---- inside
-- pieces from the form to itself: one for each of the cases in which two elements are so ordered
pub record AreOrderPieces (order : Order) (form : Form) (pieces : List PieceView) : Type 0 where
  pub cases : List System
  pub ordered : AreCasesOf (width_of form ∷ width_of form ∷ []) 0 1 (AreOrdered order) cases
  pub made : pieces ≡ map (piece_in (map_of form form)) cases

-- the space is too wide, or memory ended
abbrev pub IsSpaceFault : Type 0 → SpaceFault → Type 0
IsSpaceFault Wide space_fault.TooWide = Wide
IsSpaceFault Wide space_fault.NoMemory = Unit {0}
