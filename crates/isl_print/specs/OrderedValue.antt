-- public: values in the order in which they are printed.
use Rattle.std.specs.Prelude.{Bool, map}
use Rattle.isl_piece.specs.Piece.{PieceView, with_rows}
use Rattle.isl_union.specs.KeptValue.{KeptPiece, KeptValue}
use Rattle.isl_union.specs.Piece.{kept_piece}
use Rattle.isl_row_text.specs.Ordered.{in_order}
use Rattle.isl_print.specs.PieceOrder.{piece_before}
use Rattle.isl_row_text.specs.RowOrder.{row_before}

-- the piece with its rows in order
abbrev pub ordered_piece : KeptPiece → KeptPiece
ordered_piece piece = record { space = piece.space; definitions = piece.definitions; rows = in_order row_before piece.rows }

-- the value with its pieces in order, and the rows of each
abbrev pub ordered : KeptValue → KeptValue
ordered value = record { params = value.params; pieces = map ordered_piece (in_order piece_before value.pieces) }

-- the same of pieces with the number of their columns
abbrev pub view_before : PieceView → PieceView → Bool
view_before a b = piece_before (kept_piece a) (kept_piece b)

abbrev pub ordered_view : PieceView → PieceView
ordered_view piece = with_rows piece (in_order row_before piece.system.rows)
