-- public: a piece by content: what it is when the sharing of its shapes and of its system is forgotten.
use Rattle.std.specs.Prelude.{◌≡◌, ◌+◌, List, length}
use Rattle.isl_meter.specs.Gauge.{Gauge}
use Rattle.isl_space.specs.Name.{Name}
use Rattle.isl_space.specs.SpaceForm.{SpaceForm, IsWellFormedSpace}
use Rattle.isl_piece.specs.declared.system.System.{System}
use Rattle.isl_piece.specs.Piece.{PieceView}
use Rattle.isl_piece.specs.System.{IsSystemWithin, free_columns}
use Rattle.isl_union.specs.KeptValue.{KeptPiece, columns_of, IsKeptPiece}

-- the piece of a space with a system
abbrev pub piece_of : SpaceForm → System → KeptPiece
piece_of space system = record { space = space; definitions = system.definitions; rows = system.rows }

abbrev pub kept_piece : PieceView → KeptPiece
kept_piece piece = piece_of piece.space piece.system

-- a piece that a value with these parameters may have: each column that is not defined is one of a parameter or of a coordinate
pub record IsPieceOf (params : List Name) (piece : PieceView) : Type 0 where
  pub columns : piece.system.columns ≡ length piece.system.definitions + columns_of params piece.space
  pub kept : IsKeptPiece params (kept_piece piece)

-- a piece over these parameters, of which a value may be made: a space that a value may have, and a system over its columns, with its
-- numbers within the limit
pub record IsPieceOver (g : Gauge) (params : List Name) (piece : PieceView) : Type 0 where
  pub space : IsWellFormedSpace piece.space
  pub columns : free_columns piece.system ≡ columns_of params piece.space
  pub within : IsSystemWithin g piece.system
