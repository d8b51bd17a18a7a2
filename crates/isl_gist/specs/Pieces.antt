-- inner: what is left of pieces where others are known to hold.
use Rattle.std.specs.Prelude.{◌≡◌, ◌↔◌, ℕ, List, [], All, Any, map}
use Rattle.isl_space.specs.Element.{Element}
use Rattle.isl_space.specs.Name.{Name}
use Rattle.isl_space.specs.Valuation.{Valuation}
use Rattle.isl_piece.specs.Piece.{PieceView}
use Rattle.isl_union.specs.KeptValue.{KeptPiece, KeptValue, HasElement}
use Rattle.isl_union.specs.Numbers.{IsPieceUpTo}
use Rattle.isl_union.specs.Piece.{kept_piece, IsPieceOf}
use Rattle.isl_gist.specs.Gist.{AreGistPieces}

-- the others, as a value
abbrev pub context_of : List Name → List KeptPiece → KeptValue
context_of params others = record { params = params; pieces = others }

-- pieces that a value may have, without definitions and with no greater numbers, that are left of the pieces, and have the same elements
-- among those of the others
pub record AreLeftOver (params : List Name) (others pieces : List KeptPiece) (left : List PieceView) : Type 0 where
  pub sound : All (IsPieceOf params) left
  pub definitions : All (λ (p : KeptPiece). p.definitions ≡ []) (map kept_piece left)
  pub numbers : (most : ℕ) → All (IsPieceUpTo most) pieces → All (IsPieceUpTo most) (map kept_piece left)
  pub gist : AreGistPieces (context_of params others) pieces (map kept_piece left)
  pub elements : (valuation : Valuation) (element : Element) → Any (HasElement params valuation element) others
      → Any (HasElement params valuation element) (map kept_piece left) ↔ Any (HasElement params valuation element) pieces
