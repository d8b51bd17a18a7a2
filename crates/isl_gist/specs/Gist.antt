-- public: what is left of a value where another one is known to hold. (isl manual, on simplification in a context)
use Rattle.std.specs.Prelude.{◌≡◌, ◌↔◌, List, [], ◌∷◌, ◌++◌}
use Rattle.isl_space.specs.Element.{Element}
use Rattle.isl_space.specs.Name.{Name}
use Rattle.isl_space.specs.SpaceForm.{SpaceForm}
use Rattle.isl_space.specs.Valuation.{Valuation}
use Rattle.isl_piece.specs.declared.row.Row.{Row}
use Rattle.isl_piece.specs.Row.{HoldsRow}
use Rattle.isl_piece.specs.System.{HoldRows}
use Rattle.isl_union.specs.KeptValue.{KeptPiece, KeptValue, Has, HasElement, point_of}
use Rattle.isl_union.specs.Moved.{aligned_pieces}
use Rattle.isl_gist.specs.Halves.{all_halves, AreSomeOf}

-- ---- idle rows
-- at each element of the space that the context has and at which the others hold, the row does
abbrev pub IsIdle : KeptValue → SpaceForm → List Row → Row → Type 0
IsIdle context space others r =
    (valuation : Valuation) (element : Element) → Has context valuation element → element.space ≡ space
    → HoldRows others (point_of context.params valuation element) → HoldsRow r (point_of context.params valuation element)

-- no row and no half of a row of the piece is idle beside the others
abbrev pub HasNoIdle : KeptValue → KeptPiece → Type 0
HasNoIdle context piece =
    (before : List Row) (r : Row) (behind : List Row) → all_halves piece.rows ≡ before ++ r ∷ behind
    → ¬ IsIdle context piece.space (before ++ behind) r

-- ---- pieces
-- what is left of a piece: some of its rows, of which none is idle; the context has some element of it
pub record IsGistPiece (context : KeptValue) (piece left : KeptPiece) : Type 0 where
  pub space : left.space ≡ piece.space
  pub definitions : left.definitions ≡ piece.definitions
  pub rows : AreSomeOf piece.rows left.rows
  pub needed : HasNoIdle context left
  pub meets : ¬ ((valuation : Valuation) (element : Element) → HasElement context.params valuation element left
      → ¬ Has context valuation element)

-- what is left of distinct pieces, in order
pub data AreGistPieces (context : KeptValue) : List KeptPiece → List KeptPiece → Type 0 where
  no_more : AreGistPieces context [] []
  dropped : {piece : KeptPiece} {pieces lefts : List KeptPiece} → AreGistPieces context pieces lefts
      → AreGistPieces context (piece ∷ pieces) lefts
  kept : {piece left : KeptPiece} {pieces lefts : List KeptPiece} → IsGistPiece context piece left → AreGistPieces context pieces lefts
      → AreGistPieces context (piece ∷ pieces) (left ∷ lefts)

-- ---- values
-- the value, over more parameters
abbrev pub value_over : List Name → KeptValue → KeptValue
value_over params value = record { params = params; pieces = aligned_pieces params value }

-- the gist of a value in a context over the same parameters, neither of which defines a column: what is left of its pieces has the same
-- elements among those of the context
pub record IsGistOf (value context gist : KeptValue) : Type 0 where
  pub params : gist.params ≡ value.params
  pub pieces : AreGistPieces context value.pieces gist.pieces
  pub elements : (valuation : Valuation) (element : Element) → Has context valuation element
      → Has gist valuation element ↔ Has value valuation element
