-- public: which pieces of two values meet. (isl manual, on set and relation operations)
use Rattle.std.specs.Prelude.{◌≡◌, ℕ, if◌then◌else◌, Option, None, List, sum_by, flat_map, filter_map}
use Rattle.isl_space.specs.Name.{Name}
use Rattle.isl_space.specs.Names.{joined}
use Rattle.isl_piece.specs.Placed.{both_systems}
pub use Rattle.isl_index.specs.Same.{is_same_form, is_same_space}
use Rattle.isl_union.specs.KeptValue.{KeptPiece, KeptValue, piece_system}
use Rattle.isl_union.specs.Live.{normal_of, AreLiveOf}
use Rattle.isl_union.specs.Piece.{piece_of}
use Rattle.isl_union.specs.Moved.{aligned_pieces}

-- ---- pieces of one space
-- 1 where the two pieces lie in one space, else 0
abbrev pub pair_count : KeptPiece → KeptPiece → ℕ
pair_count a b = if is_same_space a.space b.space then 1 else 0

-- how many of the others lie in the piece's space
abbrev pub partners : List KeptPiece → KeptPiece → ℕ
partners others piece = sum_by (pair_count piece) others

-- how many pairs of a piece of the first value and one of the second lie in one space
abbrev pub pairs_of_one_space : KeptValue → KeptValue → ℕ
pairs_of_one_space a b = sum_by (partners b.pieces) a.pieces

-- ---- what they have in common
-- the normal rows of both pieces, which lie in one space; nothing where one of the rows can hold nowhere
unfoldable pub common_piece : List Name → KeptPiece → KeptPiece → Option KeptPiece
common_piece params a b = normal_of (piece_of a.space (both_systems (piece_system params a) (piece_system params b)))

-- nothing also where they lie in two spaces
abbrev pub met_piece : List Name → KeptPiece → KeptPiece → Option KeptPiece
met_piece params a b = if is_same_space a.space b.space then common_piece params a b else None

-- what a piece has in common with each of the others
abbrev pub met_with : List Name → List KeptPiece → KeptPiece → List KeptPiece
met_with params others piece = filter_map (met_piece params piece) others

abbrev pub met_pieces : List Name → List KeptPiece → List KeptPiece → List KeptPiece
met_pieces params pieces others = flat_map (met_with params others) pieces

-- the value has the joined parameters, and over them what each piece of the first has in common with each of the second, where that has
-- an element at some valuation
pub record IsMeetOf (a b value : KeptValue) : Type 0 where
  pub params : value.params ≡ joined a.params b.params
  pub pieces : AreLiveOf value.params (met_pieces value.params (aligned_pieces value.params a) (aligned_pieces value.params b)) value.pieces
