-- Printed trees are within the limits of literals.
use Rattle.std.proofs.Common.{◌≡◌, ◌+◌, ◌∙◌, ℕ, ℤ, Bool, true, false, List, [], ◌∷◌, ◌++◌, ◌≤◌, length, map, take, drop, ap, ap₂, refl, arith}
use Rattle.std.specs.Prelude.{◌&&◌, ◌==◌, if◌then◌else◌, nat_le}
use Rattle.std.specs.List.{AllByRecursion}
use Rattle.std.proofs.lemmas.Bool.{and_from, le-leb}
use Rattle.std.proofs.lemmas.List.{length-map}
use Rattle.std.proofs.lemmas.List.Elements.{recursion_from_All}
use Rattle.isl_space.specs.Name.{Name}
use Rattle.isl_space.specs.Form as form
use Rattle.isl_space.specs.Form.{Form, leaf, pair, width_of}
use Rattle.isl_space.specs.SpaceForm.{SpaceForm, set_of, map_of, space_leaves_of, coordinates_of}
use Rattle.isl_piece.specs.declared.row.RowKind.{RowKind}
use Rattle.isl_piece.specs.declared.row.RowKind.TheVariants.{Zero, AtLeast, Divides, NotDivides}
use Rattle.isl_piece.specs.declared.row.Row.{Row}
use Rattle.isl_union.specs.KeptValue.{KeptPiece, KeptValue, IsKeptPiece, IsKeptValue}
use Rattle.isl_row_text.specs.declared.sum.Side.{Side}
use Rattle.isl_row_text.specs.declared.sum.Side.TheVariants.{Left, Right}
use Rattle.isl_print.specs.Naming.{coordinate_names, column_names}
use Rattle.isl_print.specs.Ordered.{placed, in_order}
use Rattle.isl_print.specs.PieceOrder.{piece_before}
use Rattle.isl_print.specs.RowOrder.{row_before}
use Rattle.isl_print.specs.Sum.{Term, share, terms_of}
use Rattle.isl_print.proofs.TextLaws.{All-in_order, length-coordinate_names}
use Rattle.isl_tree.specs.declared.tree.Signed.{Signed}
use Rattle.isl_tree.specs.declared.tree.Factor.{Inner, Row_of-Signed, end_of-Signed, more_of-Signed, items-the_row-Signed, items_hidden-the_row-Signed-0}
use Rattle.isl_tree.specs.declared.tree.Factor.TheBlock.{hidden-the_row-Signed-0}
use Rattle.isl_tree.specs.declared.tree.Compare.{Compare}
use Rattle.isl_tree.specs.declared.tree.Compare.TheVariants.{Equal, GreaterEqual, Differs}
use Rattle.isl_tree.specs.declared.tree.Formula.{Formula, And, Row_of-Formula, end_of-Formula, more_of-Formula, items-the_row-Formula, items_hidden-the_row-Formula-0}
use Rattle.isl_tree.specs.declared.tree.Formula.TheBlock.{hidden-the_row-Formula-0}
use Rattle.isl_tree.specs.declared.tree.Tuple.{Tuple}
use Rattle.isl_tree.specs.declared.tree.Tuple.TheVariants.{Pair}
use Rattle.isl_tree.specs.declared.tree.Tuple.TheBlock.{hidden-the_row-Tuple-0}
use mathlib.Core.Former.{Count}
use Rattle.isl_text.specs.Bound.{in_factor, in_row, in_part, in_term, in_formula, in_formula_row, in_formulas, in_entries, in_tuple, in_image, in_body, bound_in}
use Rattle.isl_text.specs.Limits.{coordinates, leaves_in, leaves_in_image, leaves_of, piece_is_within, pieces_are_within, is_within}
use Rattle.isl_text.proofs.BoundLaws.{in_tuple-Pair}
use Rattle.isl_round_trip.specs.Tree.{term_tree, number_tree, constant_trees, sum_tree, side_tree, comparison_tree, remainder_tree, kind_tree, row_tree, conjunction_tree, name_entry, tuple_tree, first_tree, second_tree, piece_tree, printed_tree}
use Rattle.isl_round_trip.specs.Written.{remainders_in, remainders, HasFewRemainders}
use Rattle.isl_round_trip.proofs.TupleLaws.{entries-piece_tree}

-- ---- sums bind nothing
terms_bind : (terms : List Term) (rest : List Signed) → in_term rest ≡ 0 → in_term (map term_tree terms ++ rest) ≡ 0
terms_bind [] rest none = none
terms_bind (term ∷ terms) rest none = let again = terms_bind terms rest none in omega (arith, again)

constant_binds : (c : ℕ) → in_term (constant_trees c) ≡ 0
constant_binds c = by (c == 0)
  where
    by : (q : Bool) → in_term (if q then [] else number_tree c ∷ []) ≡ 0
    by true = refl
    by false = refl

sum_binds : (parts : List Signed) → in_term parts ≡ 0 → in_term (sum_tree parts) ≡ 0
sum_binds [] none = refl
sum_binds (part ∷ parts) none = none

side_binds : (side : Side) (names : List Name) (numbers : List ℤ) (constant : ℤ) → in_term (side_tree side names numbers constant) ≡ 0
side_binds side names numbers constant =
    sum_binds (map term_tree (terms_of side names numbers) ++ constant_trees (share side constant))
    (terms_bind (terms_of side names numbers) (constant_trees (share side constant)) (constant_binds (share side constant)))

-- ---- a row binds one variable where it is printed as a remainder
in_items : (m : Count) (row : Row_of-Signed m) → in_row row ≡ in_term (items-the_row-Signed m row)
in_items m end_of-Signed = refl
in_items m (more_of-Signed part rest) = ap (λ n. in_part part + n) (in_items _ rest)

in_factor-Inner : (parts : List Signed) → in_factor (Inner parts) ≡ in_term parts
in_factor-Inner parts = in_items _ (hidden-the_row-Signed-0 parts) ∙ ap in_term (items_hidden-the_row-Signed-0 parts)

comparison_binds : (left right : List Signed) (compare : Compare) → in_term left ≡ 0 → in_term right ≡ 0 → in_formula (comparison_tree left compare right) ≡ 0
comparison_binds left right compare a b = omega (arith, a, b)

remainder_binds : (names : List Name) (row : Row) (compare : Compare) → in_formula (remainder_tree compare names row) ≡ 1
remainder_binds names row compare =
    let side = side_tree Left names row.coefs row.constant in
    let none = in_factor-Inner side ∙ side_binds Left names row.coefs row.constant in
    omega (arith, none)

kind_binds : (names : List Name) (row : Row) (kind : RowKind) → in_formula (kind_tree kind names row) ≡ remainders_in kind
kind_binds names row Zero =
    comparison_binds (side_tree Left names row.coefs row.constant) (side_tree Right names row.coefs row.constant) Equal (side_binds Left names row.coefs row.constant) (side_binds Right names row.coefs row.constant)
kind_binds names row AtLeast =
    comparison_binds (side_tree Left names row.coefs row.constant) (side_tree Right names row.coefs row.constant) GreaterEqual (side_binds Left names row.coefs row.constant) (side_binds Right names row.coefs row.constant)
kind_binds names row Divides = remainder_binds names row Equal
kind_binds names row NotDivides = remainder_binds names row Differs

rows_bind : (names : List Name) (rows : List Row) → in_formulas (map (row_tree names) rows) ≡ remainders rows
rows_bind names [] = refl
rows_bind names (row ∷ rows) = ap₂ (λ (a b : ℕ). a + b) (kind_binds names row row.kind) (rows_bind names rows)

in_row_of : (m : Count) (row : Row_of-Formula m) → in_formula_row row ≡ in_formulas (items-the_row-Formula m row)
in_row_of m end_of-Formula = refl
in_row_of m (more_of-Formula f row) = ap (λ n. in_formula f + n) (in_row_of _ row)

in_formula-And : (fs : List Formula) → in_formula (And fs) ≡ in_formulas fs
in_formula-And fs = in_row_of _ (hidden-the_row-Formula-0 fs) ∙ ap in_formulas (items_hidden-the_row-Formula-0 fs)

body_binds : (names : List Name) (rows : List Row) → in_body (conjunction_tree (map (row_tree names) rows)) ≡ remainders rows
body_binds names [] = refl
body_binds names (row ∷ []) = let one = kind_binds names row row.kind in omega (arith, one)
body_binds names (row ∷ (other ∷ others)) = in_formula-And (map (row_tree names) (row ∷ (other ∷ others))) ∙ rows_bind names (row ∷ (other ∷ others))

-- their order does not count
remainders-placed : (before : Row → Row → Bool) (row : Row) (rows : List Row) → remainders (placed before row rows) ≡ remainders_in row.kind + remainders rows
remainders-placed before row [] = refl
remainders-placed before row (other ∷ rows) = by (before other row) (remainders-placed before row rows)
  where
    by : (b : Bool) → remainders (placed before row rows) ≡ remainders_in row.kind + remainders rows
        → remainders (if b then other ∷ placed before row rows else row ∷ (other ∷ rows)) ≡ remainders_in row.kind + remainders (other ∷ rows)
    by true again = omega (arith, again)
    by false again = refl

remainders-in_order : (before : Row → Row → Bool) (rows : List Row) → remainders (in_order before rows) ≡ remainders rows
remainders-in_order before [] = refl
remainders-in_order before (row ∷ rows) =
    remainders-placed before row (in_order before rows) ∙ ap (λ n. remainders_in row.kind + n) (remainders-in_order before rows)

-- ---- tuples
entries_bind : (names : List Name) → in_entries (map name_entry names) ≡ 0
entries_bind [] = refl
entries_bind (name ∷ names) = let again = entries_bind names in omega (arith, again)

tuple_binds : (form : Form) (names : List Name) → in_tuple (tuple_tree form names) ≡ 0
tuple_binds (leaf name width) names = entries_bind (take width names)
tuple_binds (pair left right) names =
    let rest = drop (width_of left) names in
    let a = tuple_binds left names in
    let b = tuple_binds right rest in
    in_tuple-Pair (tuple_tree left names) (tuple_tree right rest) ∙ omega (arith, a, b)

tuples_bind : (space : SpaceForm) (names : List Name) → in_tuple (first_tree space names) + in_image (second_tree space names) ≡ 0
tuples_bind (set_of form) names = let a = tuple_binds form names in omega (arith, a)
tuples_bind (map_of from to) names = let a = tuple_binds from names in let b = tuple_binds to (drop (width_of from) names) in omega (arith, a, b)

leaves_in-Pair : (first second : Tuple) → leaves_in (Pair first second) ≡ leaves_in first + leaves_in second
unfolding hidden-the_row-Tuple-0 denote.Hole.Carrier.hidden
leaves_in-Pair first second = omega arith

tuple_leaves : (f : Form) (names : List Name) → leaves_in (tuple_tree f names) ≡ form.leaves_of f
tuple_leaves (leaf name width) names = refl
tuple_leaves (pair left right) names =
    let rest = drop (width_of left) names in
    leaves_in-Pair (tuple_tree left names) (tuple_tree right rest) ∙ ap₂ (λ (a b : ℕ). a + b) (tuple_leaves left names) (tuple_leaves right rest)

tuples_leaves : (space : SpaceForm) (names : List Name) → leaves_in (first_tree space names) + leaves_in_image (second_tree space names) ≡ space_leaves_of space
tuples_leaves (set_of f) names = let a = tuple_leaves f names in omega (arith, a)
tuples_leaves (map_of from to) names = ap₂ (λ (a b : ℕ). a + b) (tuple_leaves from names) (tuple_leaves to (drop (width_of from) names))

-- ---- pieces and values
piece_within : (params : List Name) (piece : KeptPiece) → IsKeptPiece params piece → remainders piece.rows ≤ 64 → piece_is_within (piece_tree params piece) ≡ true
piece_within params piece kept few_remainders =
    let tree = piece_tree params piece in
    let names = coordinate_names params piece.space in
    let rows = in_order row_before piece.rows in
    let few = kept.space.narrow.coordinates in
    let leaves = kept.space.narrow.leaves in
    let count : coordinates tree ≡ coordinates_of piece.space = ap length (entries-piece_tree params piece) ∙ length-map names _ ∙ length-coordinate_names params piece.space in
    let parts : leaves_of tree ≡ space_leaves_of piece.space = tuples_leaves piece.space names in
    let body = body_binds (column_names params piece.space) rows ∙ remainders-in_order row_before piece.rows in
    let bound : bound_in tree ≡ remainders piece.rows = omega (arith, tuples_bind piece.space names, body) in
    and_from (nat_le (coordinates tree) 64 && nat_le (leaves_of tree) 64) (nat_le (bound_in tree) 64)
    (and_from (nat_le (coordinates tree) 64) (nat_le (leaves_of tree) 64) (le-leb (coordinates tree) 64 (omega (arith, few, count))) (le-leb (leaves_of tree) 64 (omega (arith, leaves, parts))))
    (le-leb (bound_in tree) 64 (omega (arith, bound, few_remainders)))

pieces_within : (params : List Name) (pieces : List KeptPiece) → AllByRecursion (IsKeptPiece params) pieces → AllByRecursion (λ p. remainders p.rows ≤ 64) pieces → pieces_are_within (map (piece_tree params) pieces) ≡ true
pieces_within params [] kept few = refl
pieces_within params (piece ∷ pieces) kept few =
    and_from (piece_is_within (piece_tree params piece)) (pieces_are_within (map (piece_tree params) pieces)) (piece_within params piece kept.0 few.0) (pieces_within params pieces kept.1 few.1)

pub tree_within : (value : KeptValue) → IsKeptValue value → HasFewRemainders value → is_within (printed_tree value) ≡ true
tree_within value kept few =
    let pieces = in_order piece_before value.pieces in
    let narrow = kept.params.few in
    and_from (nat_le (length value.params) 16) (pieces_are_within (map (piece_tree value.params) pieces)) (le-leb (length value.params) 16 (omega (arith, narrow)))
    (pieces_within value.params pieces
    (recursion_from_All (IsKeptPiece value.params) pieces (All-in_order piece_before (IsKeptPiece value.params) value.pieces kept.pieces))
    (recursion_from_All (λ p. remainders p.rows ≤ 64) pieces (All-in_order piece_before (λ p. remainders p.rows ≤ 64) value.pieces few)))
