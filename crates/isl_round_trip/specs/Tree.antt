-- public: the literal that a printed value is. (isl manual, the notation of sets and relations)
use Rattle.std.specs.Prelude.{ℕ, ℤ, pos, false, ◌==◌, List, [], ◌∷◌, ◌++◌, Option, Some, None, map, take, drop, unsigned_abs, if◌then◌else◌}
use Rattle.isl_space.specs.Name.{Name}
use Rattle.isl_space.specs.Form.{Form, leaf, pair, width_of}
use Rattle.isl_space.specs.SpaceForm.{SpaceForm, set_of, map_of}
use Rattle.isl_piece.specs.declared.row.RowKind.{RowKind}
use Rattle.isl_piece.specs.declared.row.RowKind.TheVariants.{Zero, AtLeast, Divides, NotDivides}
use Rattle.isl_piece.specs.declared.row.Row.{Row}
use Rattle.isl_union.specs.KeptValue.{KeptPiece, KeptValue}
use Rattle.isl_row_text.specs.declared.sum.Side.{Side}
use Rattle.isl_row_text.specs.declared.sum.Side.TheVariants.{Left, Right}
use Rattle.isl_print.specs.Naming.{coordinate_names, column_names}
use Rattle.isl_print.specs.Ordered.{in_order}
use Rattle.isl_print.specs.PieceOrder.{piece_before}
use Rattle.isl_print.specs.RowOrder.{row_before}
use Rattle.isl_print.specs.Sum.{Term, share, terms_of}
use Rattle.isl_tree.specs.declared.tree.Signed.{Signed, Signed'}
use Rattle.isl_tree.specs.declared.tree.Product.{Product', None', Some'}
use Rattle.isl_tree.specs.declared.tree.Factor.TheVariants as factor
use Rattle.isl_tree.specs.declared.tree.Compare.{Compare}
use Rattle.isl_tree.specs.declared.tree.Compare.TheVariants.{Equal, GreaterEqual, Differs}
use Rattle.isl_tree.specs.declared.tree.Formula.{Formula}
use Rattle.isl_tree.specs.declared.tree.Formula.TheVariants as formula
use Rattle.isl_tree.specs.declared.tree.Entry.{Entry}
use Rattle.isl_tree.specs.declared.tree.Entry.TheVariants.{Plain}
use Rattle.isl_tree.specs.declared.tree.Tuple.{Tuple}
use Rattle.isl_tree.specs.declared.tree.Tuple.TheVariants as tuple
use Rattle.isl_tree.specs.declared.tree.PieceTree.{PieceTree}
use Rattle.isl_tree.specs.declared.tree.Literal.{Literal}

-- ---- sums
-- a name with its coefficient; 1 is not written
abbrev pub term_tree : Term → Signed
term_tree term = Signed' false (Product' (if term.0 == 1 then [] else pos term.0 ∷ []) (Some' (factor.Name term.1) []))

abbrev pub number_tree : ℕ → Signed
number_tree number = Signed' false (Product' (pos number ∷ []) None')

abbrev pub constant_trees : ℕ → List Signed
constant_trees constant = if constant == 0 then [] else number_tree constant ∷ []

-- a sum of nothing is 0
abbrev pub sum_tree : List Signed → List Signed
sum_tree [] = number_tree 0 ∷ []
sum_tree (part ∷ parts) = part ∷ parts

-- the part of a linear form that stands on a side
abbrev pub side_tree : Side → List Name → List ℤ → ℤ → List Signed
side_tree side names numbers constant = sum_tree (map term_tree (terms_of side names numbers) ++ constant_trees (share side constant))

-- ---- rows
-- two terms and a comparison
abbrev pub comparison_tree : List Signed → Compare → List Signed → Formula
comparison_tree left compare right = formula.Chain (left ∷ []) ((compare, right ∷ []) ∷ [])

-- the two sides of a row's form
abbrev pub relation_tree : Compare → List Name → Row → Formula
relation_tree compare names row =
    comparison_tree (side_tree Left names row.coefs row.constant) compare (side_tree Right names row.coefs row.constant)

-- the remainder of a term by a number
abbrev pub remainder_part : List Signed → ℕ → Signed
remainder_part term k = Signed' false (Product' [] (Some' (factor.Inner term) (pos k ∷ [])))

-- the remainder of a row's form, and 0
abbrev pub remainder_tree : Compare → List Name → Row → Formula
remainder_tree compare names row =
    comparison_tree (remainder_part (side_tree Left names row.coefs row.constant) (unsigned_abs row.k) ∷ []) compare (number_tree 0 ∷ [])

abbrev pub kind_tree : RowKind → List Name → Row → Formula
kind_tree Zero names row = relation_tree Equal names row
kind_tree AtLeast names row = relation_tree GreaterEqual names row
kind_tree Divides names row = remainder_tree Equal names row
kind_tree NotDivides names row = remainder_tree Differs names row

abbrev pub row_tree : List Name → Row → Formula
row_tree names row = kind_tree row.kind names row

-- rows, where there are some
abbrev pub conjunction_tree : List Formula → Option Formula
conjunction_tree [] = None
conjunction_tree (row ∷ []) = Some row
conjunction_tree (row ∷ (other ∷ others)) = Some (formula.And (row ∷ (other ∷ others)))

-- ---- tuples
abbrev pub name_entry : Name → Entry
name_entry name = Plain (Signed' false (Product' [] (Some' (factor.Name name) [])) ∷ [])

-- a tuple of the first of the names
abbrev pub tuple_tree : Form → List Name → Tuple
tuple_tree (leaf name width) names = tuple.Leaf name (map name_entry (take width names))
tuple_tree (pair left right) names = tuple.Pair (tuple_tree left names) (tuple_tree right (drop (width_of left) names))

-- a set has one tuple, a map two
abbrev pub first_tree : SpaceForm → List Name → Tuple
first_tree (set_of form) names = tuple_tree form names
first_tree (map_of from to) names = tuple_tree from names

abbrev pub second_tree : SpaceForm → List Name → Option Tuple
second_tree (set_of form) names = None
second_tree (map_of from to) names = Some (tuple_tree to (drop (width_of from) names))

-- ---- pieces and values
abbrev pub piece_tree : List Name → KeptPiece → PieceTree
piece_tree params piece = record {
  first = first_tree piece.space (coordinate_names params piece.space);
  second = second_tree piece.space (coordinate_names params piece.space);
  body = conjunction_tree (map (row_tree (column_names params piece.space)) (in_order row_before piece.rows));
}

-- the pieces and the rows of each in printed order
abbrev pub printed_tree : KeptValue → Literal
printed_tree value = record { params = value.params; pieces = map (piece_tree value.params) (in_order piece_before value.pieces) }
