-- Printed trees are plain literals.
use Rattle.std.proofs.Common.{◌≡◌, ◌∙◌, ℕ, ℤ, pos, negsuc, ◌<ℤ◌, Bool, true, false, List, [], ◌∷◌, ◌++◌, map, ap, sym, refl, arith, int_lt, unsigned_abs}
use Rattle.std.specs.Prelude.{◌==◌, if◌then◌else◌}
use Rattle.std.specs.List.{list_all, AllByRecursion}
use Rattle.std.proofs.lemmas.Bool.{and_from}
use Rattle.std.proofs.lemmas.List.Elements.{recursion_from_All}
use Rattle.isl_space.specs.Name.{Name}
use Rattle.isl_math.proofs.Ring.{linear}
use Rattle.isl_piece.specs.declared.row.RowKind.{RowKind}
use Rattle.isl_piece.specs.declared.row.RowKind.TheVariants.{Zero, AtLeast, Divides, NotDivides}
use Rattle.isl_piece.specs.declared.row.Row.{Row}
use Rattle.isl_piece.specs.Row.{HasModulus}
use Rattle.isl_piece.proofs.NormalCases.{int_lt-true}
use Rattle.isl_union.specs.KeptValue.{KeptPiece, KeptValue, IsKeptPiece, IsKeptValue}
use Rattle.isl_row_text.specs.declared.sum.Side.{Side}
use Rattle.isl_row_text.specs.declared.sum.Side.TheVariants.{Left, Right}
use Rattle.isl_print.specs.Naming.{coordinate_names, column_names}
use Rattle.isl_print.specs.Ordered.{in_order}
use Rattle.isl_print.specs.PieceOrder.{piece_before}
use Rattle.isl_print.specs.RowOrder.{row_before}
use Rattle.isl_print.specs.Sum.{Term, share, terms_of}
use Rattle.isl_print.proofs.TextLaws.{All-in_order}
use Rattle.isl_tree.specs.declared.tree.Signed.{Signed}
use Rattle.isl_tree.specs.declared.tree.Factor.TheBlock.{hidden-the_row-Signed-0}
use Rattle.isl_tree.specs.declared.tree.Compare.{Compare}
use Rattle.isl_tree.specs.declared.tree.Compare.TheVariants.{Equal, GreaterEqual, Differs}
use Rattle.isl_tree.specs.declared.tree.Formula.TheVariants as formula
use Rattle.isl_tree.specs.Plain.{is_linear, is_plain_entry, is_plain_compare, parts_in, tells_equality, is_plain_chain, is_plain_formula, body_is_plain, is_plain_piece, is_plain}
use Rattle.isl_plain.proofs.PlainLaws.{plain_and, linear_no_remainder}
use Rattle.isl_plain.proofs.RemainderLaws.{parts_hidden}
use Rattle.isl_tree.specs.Literal.{piece_entries}
use Rattle.isl_round_trip.specs.Tree.{term_tree, number_tree, constant_trees, sum_tree, side_tree, comparison_tree, remainder_tree, kind_tree, row_tree, conjunction_tree, name_entry, piece_tree, printed_tree}
use Rattle.isl_round_trip.proofs.TupleLaws.{entries-piece_tree}

-- ---- sums
terms_linear : (terms : List Term) (rest : List Signed) → is_linear rest ≡ true → is_linear (map term_tree terms ++ rest) ≡ true
terms_linear [] rest linear = linear
terms_linear (term ∷ terms) rest linear = terms_linear terms rest linear

constant_linear : (c : ℕ) → is_linear (constant_trees c) ≡ true
constant_linear c = by (c == 0)
  where
    by : (q : Bool) → is_linear (if q then [] else number_tree c ∷ []) ≡ true
    by true = refl
    by false = refl

sum_linear : (parts : List Signed) → is_linear parts ≡ true → is_linear (sum_tree parts) ≡ true
sum_linear [] linear = refl
sum_linear (part ∷ parts) linear = linear

pub side_linear : (side : Side) (names : List Name) (numbers : List ℤ) (constant : ℤ) → is_linear (side_tree side names numbers constant) ≡ true
side_linear side names numbers constant =
    sum_linear (map term_tree (terms_of side names numbers) ++ constant_trees (share side constant))
    (terms_linear (terms_of side names numbers) (constant_trees (share side constant)) (constant_linear (share side constant)))

-- ---- rows
comparison_plain : (left right : List Signed) (compare : Compare) → is_linear left ≡ true → is_linear right ≡ true → is_plain_compare compare ≡ true → is_plain_chain (comparison_tree left compare right) ≡ true
comparison_plain left right compare a b c = rw (linear_no_remainder left a, a, b, c) refl

pub positive_magnitude : (k : ℤ) → pos 0 <ℤ k → pos (unsigned_abs k) ≡ k
positive_magnitude (pos n) positive = refl
positive_magnitude (negsuc n) positive = absurd (omega (arith, linear, positive))

remainder_plain : (compare : Compare) (names : List Name) (row : Row) → tells_equality compare ≡ true → pos 0 <ℤ row.k → is_plain_chain (remainder_tree compare names row) ≡ true
remainder_plain compare names row tells positive =
    let side = side_tree Left names row.coefs row.constant in
    let form : is_linear (parts_in (hidden-the_row-Signed-0 side)) ≡ true = ap is_linear (parts_hidden side) ∙ side_linear Left names row.coefs row.constant in
    let modulus : int_lt (pos 0) (pos (unsigned_abs row.k)) ≡ true = ap (int_lt (pos 0)) (positive_magnitude row.k positive) ∙ int_lt-true (pos 0) row.k positive in
    rw (form, modulus, tells) refl

module _ (names : List Name) (row : Row) where
  chain_plain : (kind : RowKind) → HasModulus kind row.k → is_plain_chain (kind_tree kind names row) ≡ true
  chain_plain Zero modulus =
      comparison_plain (side_tree Left names row.coefs row.constant) (side_tree Right names row.coefs row.constant) Equal (side_linear Left names row.coefs row.constant) (side_linear Right names row.coefs row.constant) refl
  chain_plain AtLeast modulus =
      comparison_plain (side_tree Left names row.coefs row.constant) (side_tree Right names row.coefs row.constant) GreaterEqual (side_linear Left names row.coefs row.constant) (side_linear Right names row.coefs row.constant) refl
  chain_plain Divides modulus = remainder_plain Equal names row refl modulus
  chain_plain NotDivides modulus = remainder_plain Differs names row refl modulus

  -- a chain alone
  alone_plain : (kind : RowKind) → HasModulus kind row.k → is_plain_formula (kind_tree kind names row) ≡ true
  alone_plain Zero modulus = chain_plain Zero modulus
  alone_plain AtLeast modulus = chain_plain AtLeast modulus
  alone_plain Divides modulus = chain_plain Divides modulus
  alone_plain NotDivides modulus = chain_plain NotDivides modulus

-- each row has a modulus of its kind
HaveModuli : List Row → Type 0
HaveModuli rows = AllByRecursion (λ r. HasModulus r.kind r.k) rows

chains_plain : (names : List Name) (rows : List Row) → HaveModuli rows → list_all is_plain_chain (map (row_tree names) rows) ≡ true
unfolding HaveModuli
chains_plain names [] all = refl
chains_plain names (row ∷ rows) all = and_from (is_plain_chain (row_tree names row)) (list_all is_plain_chain (map (row_tree names) rows)) (chain_plain names row row.kind all.0) (chains_plain names rows all.1)

body_plain : (names : List Name) (rows : List Row) → HaveModuli rows → body_is_plain (conjunction_tree (map (row_tree names) rows)) ≡ true
unfolding HaveModuli
body_plain names [] all = refl
body_plain names (row ∷ []) all = alone_plain names row row.kind all.0
body_plain names (row ∷ (other ∷ others)) all =
    let trees = map (row_tree names) (row ∷ (other ∷ others)) in
    sym (plain_and (formula.And trees) trees true refl (sym (chains_plain names (row ∷ (other ∷ others)) all)))

-- ---- tuples
entries_plain : (names : List Name) → list_all is_plain_entry (map name_entry names) ≡ true
entries_plain [] = refl
entries_plain (name ∷ names) = entries_plain names

-- ---- pieces and values
piece_plain : (params : List Name) (piece : KeptPiece) → IsKeptPiece params piece → is_plain_piece (piece_tree params piece) ≡ true
unfolding HaveModuli
piece_plain params piece kept =
    let tree = piece_tree params piece in
    let names = coordinate_names params piece.space in
    let rows = in_order row_before piece.rows in
    and_from (list_all is_plain_entry (piece_entries tree)) (body_is_plain tree.body)
    (ap (list_all is_plain_entry) (entries-piece_tree params piece) ∙ entries_plain names)
    (body_plain (column_names params piece.space) rows
    (recursion_from_All (λ r. HasModulus r.kind r.k) rows (All-in_order row_before (λ r. HasModulus r.kind r.k) piece.rows (λ i d low. (kept.rows i d low).modulus))))

pieces_plain : (params : List Name) (pieces : List KeptPiece) → AllByRecursion (IsKeptPiece params) pieces → list_all is_plain_piece (map (piece_tree params) pieces) ≡ true
pieces_plain params [] kept = refl
pieces_plain params (piece ∷ pieces) kept =
    and_from (is_plain_piece (piece_tree params piece)) (list_all is_plain_piece (map (piece_tree params) pieces)) (piece_plain params piece kept.0) (pieces_plain params pieces kept.1)

pub tree_plain : (value : KeptValue) → IsKeptValue value → is_plain (printed_tree value) ≡ true
tree_plain value kept =
    let pieces = in_order piece_before value.pieces in
    pieces_plain value.params pieces
    (recursion_from_All (IsKeptPiece value.params) pieces (All-in_order piece_before (IsKeptPiece value.params) value.pieces kept.pieces))
