-- public: rows as text. (isl manual, the notation of sets and relations: affine constraints and remainders)
use Rattle.std.specs.Prelude.{List, [], ◌∷◌, ◌++◌, map, codes, unsigned_abs}
use Rattle.std.specs.Fmt.{decimal}
use Rattle.isl_space.specs.Name.{Name}
use Rattle.isl_piece.specs.declared.row.RowKind.{RowKind}
use Rattle.isl_piece.specs.declared.row.RowKind.TheVariants.{Zero, AtLeast, Divides, NotDivides}
use Rattle.isl_piece.specs.declared.row.Row.{Row}
use Rattle.isl_row_text.specs.declared.sum.Side.TheVariants.{Left, Right}
use Rattle.isl_row_text.specs.Joined.{Text, joined_by}
use Rattle.isl_row_text.specs.Ordered.{in_order}
use Rattle.isl_row_text.specs.RowOrder.{row_before}
use Rattle.isl_row_text.specs.Sum.{side_text}

-- the two sides of a row's form, with a relation between them
abbrev pub relation_text : Text → List Name → Row → Text
relation_text relation names row = side_text Left names row.coefs row.constant ++ relation ++ side_text Right names row.coefs row.constant

-- the remainder of a row's form
abbrev pub remainder_text : List Name → Row → Text
remainder_text names row = codes "(" ++ side_text Left names row.coefs row.constant ++ codes ") mod " ++ decimal (unsigned_abs row.k)

abbrev pub kind_text : RowKind → List Name → Row → Text
kind_text Zero names row = relation_text (codes " = ") names row
kind_text AtLeast names row = relation_text (codes " >= ") names row
kind_text Divides names row = remainder_text names row ++ codes " = 0"
kind_text NotDivides names row = remainder_text names row ++ codes " != 0"

abbrev pub row_text : List Name → Row → Text
row_text names row = kind_text row.kind names row

-- the texts of rows, where there are some
abbrev pub conjunction_text : List Text → Text
conjunction_text [] = []
conjunction_text (text ∷ texts) = codes " : " ++ joined_by (codes " and ") (text ∷ texts)

-- the rows in order
abbrev pub rows_text : List Name → List Row → Text
rows_text names rows = conjunction_text (map (row_text names) (in_order row_before rows))
