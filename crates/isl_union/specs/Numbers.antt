-- public: how great the numbers of a value, or of pieces, are.
use Rattle.std.specs.Prelude.{ℕ, List, All, unsigned_abs}
use Rattle.isl_meter.specs.Gauge.{Gauge, limit_of}
use Rattle.isl_piece.specs.Formed.{IsDefinitionUpTo}
use Rattle.isl_piece.specs.Piece.{PieceView}
use Rattle.isl_piece.specs.Row.{IsRowUpTo}
use Rattle.isl_piece.specs.System.{IsSystemWithin}
use Rattle.isl_union.specs.KeptValue.{KeptPiece, KeptValue}

-- each number of the piece has at most this magnitude
pub record IsPieceUpTo (limit : ℕ) (piece : KeptPiece) : Type 0 where
  pub rows : All (IsRowUpTo limit) piece.rows
  pub definitions : All (IsDefinitionUpTo limit) piece.definitions

-- each number of the value has at most this magnitude
abbrev pub HasNumbersUpTo : ℕ → KeptValue → Type 0
HasNumbersUpTo limit value = All (IsPieceUpTo limit) value.pieces

-- each number of the value is within the limit of the meter
abbrev pub IsWithinLimit : Gauge → KeptValue → Type 0
IsWithinLimit g value = HasNumbersUpTo (unsigned_abs (limit_of g)) value

-- the systems of the pieces are such, with their numbers within the limit of the meter
abbrev pub AreWithinLimit : Gauge → List PieceView → Type 0
AreWithinLimit g pieces = All (λ piece. IsSystemWithin g piece.system) pieces
