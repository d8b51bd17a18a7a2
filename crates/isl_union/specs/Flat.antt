-- public: values without defined columns, piece by piece. (isl manual, on integer divisions)
use Rattle.std.specs.Prelude.{◌≡◌, ◌↔◌, List, [], ◌∷◌, ◌++◌, Any}
use Rattle.isl_space.specs.Element.{Element}
use Rattle.isl_space.specs.Name.{Name}
use Rattle.isl_space.specs.Valuation.{Valuation}
use Rattle.isl_union.specs.KeptValue.{KeptPiece, KeptValue, HasElement}

-- pieces that at every valuation have exactly the elements of this one together; where it defines no column it stays, alone
pub record AreInPlaceOf (params : List Name) (piece : KeptPiece) (flat : List KeptPiece) : Type 0 where
  pub elements : (valuation : Valuation) (element : Element)
      → Any (HasElement params valuation element) flat ↔ HasElement params valuation element piece
  pub same : piece.definitions ≡ [] → flat ≡ piece ∷ []

-- such pieces of each of the pieces, one after another
abbrev pub AreFlatOf : List Name → List KeptPiece → List KeptPiece → Type 0
AreFlatOf params [] flat = flat ≡ []
AreFlatOf params (piece ∷ pieces) flat =
    (first : List KeptPiece) × (rest : List KeptPiece) × (flat ≡ first ++ rest) × AreInPlaceOf params piece first
    × AreFlatOf params pieces rest

-- The one value may be the other without its defined columns: over the same parameters, such pieces of each of its pieces.
pub record IsFlatOf (defined value : KeptValue) : Type 0 where
  pub params : value.params ≡ defined.params
  pub pieces : AreFlatOf defined.params defined.pieces value.pieces
