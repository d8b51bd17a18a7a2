-- public: what is left of pieces without others, which pieces have the elements of others, and two values over their joined parameters. (isl
-- manual, on subtracting sets and on the alignment of parameters)
use Rattle.std.specs.Prelude.{◌≡◌, ◌↔◌, if◌then◌else◌, Option, Some, None, List, [], All, Any, filter_map, map}
use Rattle.isl_meter.specs.Gauge.{Gauge}
use Rattle.isl_space.specs.Element.{Element}
use Rattle.isl_space.specs.Name.{Name}
use Rattle.isl_space.specs.Names.{IsParameterList, joined}
use Rattle.isl_space.specs.SpaceForm.{SpaceForm}
use Rattle.isl_space.specs.Valuation.{Valuation}
use Rattle.isl_piece.specs.Piece.{PieceView}
use Rattle.isl_piece.specs.declared.system.System.{System}
use Rattle.isl_ledger.specs.Work.{Size, AreOfSize}
use Rattle.isl_union.specs.KeptValue.{KeptPiece, KeptValue, Has, HasElement, HasNoDefinitions}
use Rattle.isl_union.specs.Meet.{is_same_space}
use Rattle.isl_union.specs.Numbers.{AreWithinLimit}
use Rattle.isl_union.specs.Piece.{kept_piece, IsPieceOf}
use Rattle.isl_union.specs.Tame.{systems_of, IsOfSize}

-- ---- pieces of one space
abbrev pub piece_in : SpaceForm → System → PieceView
piece_in space system = record { space = space; system = system }

-- the system of the piece, where that lies in the space
abbrev pub system_in : SpaceForm → PieceView → Option System
system_in space piece = if is_same_space space piece.space then Some piece.system else None

-- the systems of those pieces that lie in the space
abbrev pub systems_in : SpaceForm → List PieceView → List System
systems_in space pieces = filter_map (system_in space) pieces

-- ---- two lists of pieces over the same parameters
-- pieces that a value may have, within the limit; at each valuation exactly those elements of the pieces are theirs that none of the
-- others has
pub record AreLeftOf (g : Gauge) (params : List Name) (pieces others : List KeptPiece) (left : List PieceView) : Type 0 where
  pub sound : All (IsPieceOf params) left
  pub within : AreWithinLimit g left
  pub elements : (valuation : Valuation) (element : Element) → Any (HasElement params valuation element) (map kept_piece left)
      ↔ (Any (HasElement params valuation element) pieces × ¬ Any (HasElement params valuation element) others)

-- at each valuation the others have each element of the pieces
pub record AreCovered (params : List Name) (pieces others : List KeptPiece) : Type 0 where
  pub elements : (valuation : Valuation) (element : Element)
      → Any (HasElement params valuation element) pieces → Any (HasElement params valuation element) others

-- ---- two values over their joined parameters
-- pieces over the parameters, within the limit, that have the elements of the value, and define no column where it defines none; one for each
-- of the value's, in its space, and of a size that it has
pub record ArePiecesOver (g : Gauge) (params : List Name) (value : KeptValue) (pieces : List PieceView) : Type 0 where
  pub sound : All (IsPieceOf params) pieces
  pub within : AreWithinLimit g pieces
  pub elements : (valuation : Valuation) (element : Element)
      → Any (HasElement params valuation element) (map kept_piece pieces) ↔ Has value valuation element
  pub definitions : HasNoDefinitions value → All (λ piece. piece.system.definitions ≡ []) pieces
  pub spaces : map (λ piece. piece.space) pieces ≡ map (λ piece. piece.space) value.pieces
  pub sizes : (size : Size) → IsOfSize params size value → AreOfSize size (systems_of pieces)

-- the pieces of the one value and of the other over their joined parameters
pub record IsAlignedPair (g : Gauge) (a b : KeptValue) (all : List Name) (firsts seconds : List PieceView) : Type 0 where
  pub params : all ≡ joined a.params b.params
  pub well_formed : IsParameterList all
  pub own : ArePiecesOver g all a firsts
  pub others : ArePiecesOver g all b seconds
