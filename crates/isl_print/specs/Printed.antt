-- public: values as text, in the notation of sets and relations. (isl manual; the iscc chapter of the barvinok manual, on `print`)
use Rattle.std.specs.Prelude.{List, [], ◌∷◌, ◌++◌, map, codes}
use Rattle.isl_space.specs.Name.{Name}
use Rattle.isl_union.specs.KeptValue.{KeptPiece, KeptValue}
use Rattle.isl_row_text.specs.Joined.{Text, joined_by}
use Rattle.isl_row_text.specs.Naming.{coordinate_names, column_names}
use Rattle.isl_row_text.specs.Ordered.{in_order}
use Rattle.isl_print.specs.PieceOrder.{piece_before}
use Rattle.isl_row_text.specs.RowText.{rows_text}
use Rattle.isl_print.specs.Tuple.{tuples_text}

-- the tuples, and the rows where there are some
abbrev pub piece_text : List Name → KeptPiece → Text
piece_text params piece =
    tuples_text piece.space (coordinate_names params piece.space) ++ rows_text (column_names params piece.space) piece.rows

abbrev pub params_text : List Name → Text
params_text [] = []
params_text (name ∷ names) = codes "[" ++ joined_by (codes ", ") (name ∷ names) ++ codes "] -> "

-- the texts of pieces, in braces
abbrev pub pieces_text : List Text → Text
pieces_text [] = codes "{ }"
pieces_text (text ∷ texts) = codes "{ " ++ joined_by (codes "; ") (text ∷ texts) ++ codes " }"

-- the declared names, and the pieces in order
abbrev pub printed : KeptValue → Text
printed value = params_text value.params ++ pieces_text (map (piece_text value.params) (in_order piece_before value.pieces))
