-- inner: how pieces and places are stored, which a model asks for: as the lists of them.
use Rattle.std.specs.Prelude.{List, ℕ}
use Rattle.std.specs.Coded.{Coded, coded_list, coded_ℕ}
use Rattle.isl_piece.specs.Piece.{PieceView}
use Rattle.isl_piece.specs.Stored.{piece_code}

abbrev pub places_code : Coded (List ℕ)
places_code = coded_list coded_ℕ

abbrev pub pieces_code : Coded (List PieceView)
pieces_code = coded_list piece_code
