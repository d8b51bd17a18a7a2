-- inner: the first elements of pieces, space by space.
use Rattle.std.specs.Prelude.{◌≡◌, ◌↔◌, ◌+◌, ℕ, List, [], All, Any, length, map}
use Rattle.isl_meter.specs.Gauge.{Gauge, IsCharged}
use Rattle.isl_space.specs.Element.{Element}
use Rattle.isl_space.specs.Form.{width_of}
use Rattle.isl_space.specs.Name.{Name}
use Rattle.isl_space.specs.SpaceForm.{SpaceForm, set_of, map_of}
use Rattle.isl_space.specs.Valuation.{Valuation}
use Rattle.isl_piece.specs.Piece.{PieceView}
use Rattle.isl_union.specs.KeptValue.{HasElement}
use Rattle.isl_union.specs.Numbers.{AreWithinLimit}
use Rattle.isl_union.specs.Piece.{kept_piece, IsPieceOf}
use Rattle.isl_relation.specs.Extremes.{FirstHas, IsFirstImage, IsFirstOf}
use Rattle.isl_relation.specs.Orders.{ComesAfter, ComesBefore}
use Rattle.isl_relation.specs.Point.{Point, HasPoint, Relates}
use Rattle.isl_blocks.specs.declared.cases.Direction.{Direction}
use Rattle.isl_blocks.specs.declared.cases.Direction.TheVariants.{Before, After}

-- how points are put in order: first are the least, or the greatest
abbrev pub order_of : Direction → Point → Point → Type 0
order_of Before x y = ComesBefore x y
order_of After x y = ComesAfter x y

-- the columns in front of those that are put in order: of the parameters, and of what a map maps from
abbrev pub front_of : List Name → SpaceForm → ℕ
front_of params (set_of form) = length params
front_of params (map_of from to) = length params + width_of from

-- how many are put in order
abbrev pub ordered_width : SpaceForm → ℕ
ordered_width (set_of form) = width_of form
ordered_width (map_of from to) = width_of to

-- the elements of pieces at a valuation
abbrev pub elements_of_all : List Name → List PieceView → Valuation → Element → Type 0
elements_of_all params pieces valuation element = Any (HasElement params valuation element) (map kept_piece pieces)

-- pieces that a value may have, within the limit, that define no column
pub record ArePlainPieces (g : Gauge) (params : List Name) (pieces : List PieceView) : Type 0 where
  pub sound : All (IsPieceOf params) pieces
  pub within : AreWithinLimit g pieces
  pub plain : All (λ piece. piece.system.definitions ≡ []) pieces

-- plain pieces of the first elements that the others have in some of the spaces
pub record AreFirstIn (g : Gauge) (params : List Name) (direction : Direction) (spaces : List SpaceForm) (pieces made : List PieceView)
    : Type 0 where
  pub are : ArePlainPieces g params made
  pub elements : (valuation : Valuation) (element : Element)
      → elements_of_all params made valuation element
      ↔ (Any (λ space. element.space ≡ space) spaces × FirstHas (order_of direction) (elements_of_all params pieces valuation) element)

-- where the operand has elements of the space, there is a first one; of a map, of each x
pub record HasFirstIn (Ordered : Point → Point → Type 0) (space : SpaceForm) (Operand : Element → Type 0) : Type 0 where
  pub sets : (x : Point) → set_of x.form ≡ space → HasPoint Operand x → (z : Point) × (z.form ≡ x.form) × IsFirstOf Ordered Operand z
  pub maps : (x y : Point) → map_of x.form y.form ≡ space → Relates Operand x y
      → (z : Point) × (z.form ≡ y.form) × IsFirstImage Ordered Operand x z

-- at every valuation
abbrev pub ThereIsFirst : List Name → Direction → List PieceView → SpaceForm → Type 0
ThereIsFirst params direction pieces space =
    (valuation : Valuation) → HasFirstIn (order_of direction) space (elements_of_all params pieces valuation)

-- spaces were looked at
pub record AreFirstSoFar (old new : Gauge) (params : List Name) (direction : Direction) (spaces : List SpaceForm)
    (pieces made : List PieceView) : Type 0 where
  pub charged : IsCharged old new
  pub first : AreFirstIn old params direction spaces pieces made
  pub there : All (ThereIsFirst params direction pieces) spaces
