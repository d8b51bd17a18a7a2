-- public: what a value is: unions of basic sets or basic relations over named spaces. (isl manual, on sets, relations and parameters)
use Rattle.std.specs.Prelude.{◌≡◌, ℕ, ◌+◌, ℤ, List, [], ◌++◌, All, Any, length}
use Rattle.isl_space.specs.Name.{Name}
use Rattle.isl_space.specs.Names.{IsParameterList}
use Rattle.isl_space.specs.SpaceForm.{SpaceForm, coordinates_of, IsWellFormedSpace}
use Rattle.isl_space.specs.Valuation.{Valuation, values_of}
use Rattle.isl_space.specs.Element.{Element, IsElement}
use Rattle.isl_piece.specs.declared.definition.Definition.{Definition}
use Rattle.isl_piece.specs.declared.row.Row.{Row}
use Rattle.isl_piece.specs.declared.system.System.{System}
use Rattle.isl_piece.specs.Formed.{AreWellFormedDefinitions}
use Rattle.isl_piece.specs.Normal.{IsNormal}
use Rattle.isl_piece.specs.Row.{IsWellFormed}
use Rattle.isl_piece.specs.System.{HoldsSystem}
use Rattle.isl_elim.specs.Sample.{IsNowhere}

-- a space, and a system over the parameters and then the coordinates: the definitions of the columns behind these, and rows over all
pub record KeptPiece : Type 0 where
  pub space : SpaceForm
  pub definitions : List Definition
  pub rows : List Row

-- declared names, and pieces
pub record KeptValue : Type 0 where
  pub params : List Name
  pub pieces : List KeptPiece

-- ---- elements
-- the numbers of the parameters, and then the coordinates
abbrev pub point_of : List Name → Valuation → Element → List ℤ
point_of params valuation element = values_of params valuation ++ element.coordinates

-- the columns of a piece that it does not define: one for each parameter, and one for each coordinate
abbrev pub columns_of : List Name → SpaceForm → ℕ
columns_of params space = length params + coordinates_of space

-- the system of a piece
abbrev pub piece_system : List Name → KeptPiece → System
piece_system params piece = record {
  columns = length piece.definitions + columns_of params piece.space;
  definitions = piece.definitions;
  rows = piece.rows;
}

-- the element has as many numbers as its space has coordinates, the piece lies in that space, and its system holds there: each of its
-- rows, where each defined column stands for the number that its definition gives
pub record HasElement (params : List Name) (valuation : Valuation) (element : Element) (piece : KeptPiece) : Type 0 where
  pub numbers : IsElement element
  pub space : piece.space ≡ element.space
  pub holds : HoldsSystem (piece_system params piece) (point_of params valuation element)

-- some piece of the value has the element
abbrev pub Has : KeptValue → Valuation → Element → Type 0
Has value valuation element = Any (HasElement value.params valuation element) value.pieces

-- ---- what may be kept
-- no whole numbers of the parameters and coordinates make the system of the piece hold: it has an element at no valuation
abbrev pub IsVoid : List Name → KeptPiece → Type 0
IsVoid params piece = IsNowhere (columns_of params piece.space) (HoldsSystem (piece_system params piece))

-- the piece has an element at some valuation
abbrev pub IsLive : List Name → KeptPiece → Type 0
IsLive params piece = ¬ IsVoid params piece

-- the space is one that a value may have, the definitions are such over its columns, the rows are normal rows over them all, and the
-- piece has an element at some valuation
pub record IsKeptPiece (params : List Name) (piece : KeptPiece) : Type 0 where
  pub space : IsWellFormedSpace piece.space
  pub definitions : AreWellFormedDefinitions (columns_of params piece.space) piece.definitions
  pub rows : All (IsWellFormed (length piece.definitions + columns_of params piece.space)) piece.rows
  pub normal : IsNormal piece.rows
  pub live : IsLive params piece

pub record IsKeptValue (value : KeptValue) : Type 0 where
  pub params : IsParameterList value.params
  pub pieces : All (IsKeptPiece value.params) value.pieces

-- no piece of the value defines a column
abbrev pub HasNoDefinitions : KeptValue → Type 0
HasNoDefinitions value = All (λ piece. piece.definitions ≡ []) value.pieces
