-- public: pieces whose columns stand at other places. (isl manual, on the alignment of parameters)
use Rattle.std.specs.Prelude.{ℕ, List, ◌++◌, length, map}
use Rattle.std.specs.List.{position_or_len, range_with_len}
use Rattle.std.specs.Str.{bytes_eq}
use Rattle.isl_space.specs.Name.{Name}
use Rattle.isl_space.specs.SpaceForm.{SpaceForm, coordinates_of}
use Rattle.isl_piece.specs.declared.system.System.{System}
use Rattle.isl_piece.specs.Placed.{placed_system}
use Rattle.isl_union.specs.KeptValue.{KeptPiece, KeptValue, columns_of, piece_system}
use Rattle.isl_union.specs.Live.{settled}
use Rattle.isl_union.specs.Piece.{piece_of}

-- the normal piece of a space whose system is this one, with the columns that it does not define at these places among so many
unfoldable pub moved : SpaceForm → ℕ → List ℕ → System → KeptPiece
moved space columns places system = settled (piece_of space (placed_system columns places system))

-- the place of a name among all
abbrev pub place_in : List Name → Name → ℕ
place_in all name = position_or_len (bytes_eq name) all

abbrev pub places_in : List Name → List Name → List ℕ
places_in all names = map (place_in all) names

-- the places of a piece's columns: of parameters by their names, and of coordinates behind all parameters
abbrev pub column_places : List Name → List Name → SpaceForm → List ℕ
column_places all names space = places_in all names ++ range_with_len (length all) (coordinates_of space)

-- a piece over some parameters, as one over all
abbrev pub aligned : List Name → List Name → KeptPiece → KeptPiece
aligned all names piece = moved piece.space (columns_of all piece.space) (column_places all names piece.space) (piece_system names piece)

-- the pieces of a value, over all parameters
abbrev pub aligned_pieces : List Name → KeptValue → List KeptPiece
aligned_pieces all value = map (aligned all value.params) value.pieces
