-- inner: how pieces are stored, which a model asks for: as the list of them.
use Rattle.std.specs.Prelude.{List}
use Rattle.std.specs.Coded.{Coded, coded_list}
use Rattle.isl_piece.specs.Piece.{PieceView}
use Rattle.isl_piece.specs.Stored.{piece_code}

abbrev pub pieces_code : Coded (List PieceView)
pieces_code = coded_list piece_code
