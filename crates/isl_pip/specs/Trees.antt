-- inner: the trees of pieces, space by space.
use Rattle.std.specs.Prelude.{◌≡◌, ℤ, List, [], ◌++◌, All, Any, map}
use Rattle.isl_meter.specs.Gauge.{Gauge}
use Rattle.isl_space.specs.Element.{Element}
use Rattle.isl_space.specs.Name.{Name}
use Rattle.isl_space.specs.SpaceForm.{SpaceForm, set_of, map_of}
use Rattle.isl_space.specs.Valuation.{Valuation, values_of}
use Rattle.isl_piece.specs.Piece.{PieceView}
use Rattle.isl_union.specs.KeptValue.{HasElement}
use Rattle.isl_union.specs.Numbers.{AreWithinLimit}
use Rattle.isl_union.specs.Piece.{kept_piece, IsPieceOf}
use Rattle.isl_relation.specs.Extremes.{IsFirstImage, IsFirstOf}
use Rattle.isl_relation.specs.Orders.{ComesBefore}
use Rattle.isl_relation.specs.Point.{Point, HasPoint, Relates}
use Rattle.isl_quast.specs.declared.tree.Quast.{Quast}
use Rattle.isl_quast.specs.Tree.{quast_at, HasWidth, IsQuastOver}
use Rattle.isl_row_text.specs.Ordered.{in_order}
use Rattle.isl_by_space.specs.Spaces.{each_once}
use Rattle.isl_pip.specs.Least.{front_width, leaf_width, space_before, GivesFirst}

-- the spaces of pieces, each once, ordered by their text
pub record AreOrderedSpaces (pieces : List PieceView) (spaces : List SpaceForm) : Type 0 where
  pub order : spaces ≡ in_order space_before (each_once (map (λ piece. piece.space) pieces))
  pub all : All (λ piece. Any (λ s. piece.space ≡ s) spaces) pieces
  pub only : All (λ s. Any (λ piece. piece.space ≡ s) pieces) spaces

-- the elements of pieces at a valuation
abbrev pub elements_of : List Name → List PieceView → Valuation → Element → Type 0
elements_of params pieces valuation element = Any (HasElement params valuation element) (map kept_piece pieces)

-- pieces that a value may have, within the limit, that define no column
pub record ArePlainPieces (g : Gauge) (params : List Name) (pieces : List PieceView) : Type 0 where
  pub sound : All (IsPieceOf params) pieces
  pub within : AreWithinLimit g pieces
  pub plain : All (λ piece. piece.system.definitions ≡ []) pieces

-- where the operand has elements of the space there is a first one; of a map, of each x
pub record HasFirstIn (space : SpaceForm) (Operand : Element → Type 0) : Type 0 where
  pub sets : (x : Point) → set_of x.form ≡ space → HasPoint Operand x → (z : Point) × (z.form ≡ x.form) × IsFirstOf ComesBefore Operand z
  pub maps : (x y : Point) → map_of x.form y.form ≡ space → Relates Operand x y
      → (z : Point) × (z.form ≡ y.form) × IsFirstImage ComesBefore Operand x z

-- at every valuation
abbrev pub ThereIsFirst : List Name → List PieceView → SpaceForm → Type 0
ThereIsFirst params pieces space = (valuation : Valuation) → HasFirstIn space (elements_of params pieces valuation)

-- the tree of the first elements that pieces have in a space
pub record IsTreeIn (g : Gauge) (params : List Name) (pieces : List PieceView) (space : SpaceForm) (tree : Quast) : Type 0 where
  pub gives : (valuation : Valuation)
      → GivesFirst (elements_of params pieces valuation) space (λ front. quast_at tree (values_of params valuation ++ front))
  pub over : IsQuastOver g (front_width params space) tree
  pub width : HasWidth (leaf_width space) tree
