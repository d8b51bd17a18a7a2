-- inner: the elements of pieces where the parameters have given numbers.
use Rattle.std.specs.Prelude.{◌≡◌, ◌↔◌, ◌+◌, ℤ, List, [], ◌++◌, All, Any, Contains, length}
use Rattle.std.specs.List.{AllZip}
use Rattle.isl_meter.specs.Gauge.{Gauge}
use Rattle.isl_space.specs.Element.{Element, IsElement}
use Rattle.isl_space.specs.SpaceForm.{coordinates_of, IsWellFormedSpace}
use Rattle.isl_piece.specs.Piece.{PieceView}
use Rattle.isl_piece.specs.declared.system.System.{System}
use Rattle.isl_piece.specs.System.{HoldsSystem, IsSystemWithin, free_columns}
use Rattle.isl_points.specs.Fibre.{IsFibreOf}
use Rattle.isl_scan.specs.declared.group.Group.{Group}
use Rattle.isl_scan.specs.Groups.{elements_in, elements_of, space_in, AreGroups, IsGroup}

-- a piece that defines no column: its system is one over the parameters, which have these numbers, and the coordinates
pub record IsListable (g : Gauge) (numbers : List ℤ) (piece : PieceView) : Type 0 where
  pub space : IsWellFormedSpace piece.space
  pub within : IsSystemWithin g piece.system
  pub plain : piece.system.definitions ≡ []
  pub columns : free_columns piece.system ≡ length numbers + coordinates_of piece.space

-- the piece has the element there
pub record HasAt (numbers : List ℤ) (element : Element) (piece : PieceView) : Type 0 where
  pub counted : IsElement element
  pub space : piece.space ≡ element.space
  pub holds : HoldsSystem piece.system (numbers ++ element.coordinates)

-- of each piece there is the fibre
pub record AreFibresOf (g : Gauge) (numbers : List ℤ) (pieces : List PieceView) (fibres : List (List (List System))) : Type 0 where
  pub listable : All (IsListable g numbers) pieces
  pub each : AllZip (λ piece fibre. IsFibreOf g piece.system numbers fibre) pieces fibres

-- a group, which has exactly the elements of the piece
pub record IsGroupOf (numbers : List ℤ) (piece : PieceView) (group : Group) : Type 0 where
  pub sound : IsGroup group
  pub exact : (element : Element) → Contains (elements_in (space_in group) group.points) element ↔ HasAt numbers element piece

-- the groups have exactly the elements that the pieces have there
pub record AreGathered (numbers : List ℤ) (pieces : List PieceView) (groups : List Group) : Type 0 where
  pub sound : AreGroups groups
  pub exact : (element : Element) → Contains (elements_of groups) element ↔ Any (HasAt numbers element) pieces
