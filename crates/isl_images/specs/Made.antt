-- inner: pieces of which a value is made, and the elements that they have.
use Rattle.std.specs.Prelude.{◌↔◌, List, [], ◌≡◌, All, Any, map}
use Rattle.isl_meter.specs.Gauge.{Gauge}
use Rattle.isl_space.specs.Element.{Element}
use Rattle.isl_space.specs.Name.{Name}
use Rattle.isl_space.specs.Valuation.{Valuation}
use Rattle.isl_piece.specs.Piece.{PieceView}
use Rattle.isl_union.specs.KeptValue.{HasElement}
use Rattle.isl_union.specs.Numbers.{AreWithinLimit}
use Rattle.isl_union.specs.Piece.{kept_piece, IsPieceOf}

-- the elements of a piece at a valuation
abbrev pub elements_of : List Name → PieceView → Valuation → Element → Type 0
elements_of params piece valuation element = HasElement params valuation element (kept_piece piece)

-- those of pieces
abbrev pub elements_of_all : List Name → List PieceView → Valuation → Element → Type 0
elements_of_all params pieces valuation element = Any (HasElement params valuation element) (map kept_piece pieces)

-- no column is defined
abbrev pub IsPlain : PieceView → Type 0
IsPlain piece = piece.system.definitions ≡ []

-- pieces that a value may have, within the limit, that have just the elements of `Selects` at each valuation; where `Plain` holds they
-- define no column
pub record ArePiecesOf (g : Gauge) (params : List Name) (Plain : Type 0) (Selects : Valuation → Element → Type 0)
    (pieces : List PieceView) : Type 0 where
  pub elements : (valuation : Valuation) (element : Element)
      → elements_of_all params pieces valuation element ↔ Selects valuation element
  pub sound : All (IsPieceOf params) pieces
  pub within : AreWithinLimit g pieces
  pub definitions : Plain → All IsPlain pieces
