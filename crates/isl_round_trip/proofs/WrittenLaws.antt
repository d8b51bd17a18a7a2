-- The rows that a printed piece writes are the kept ones, in printed order.
use Rattle.std.proofs.Common.{◌≡◌, ◌+◌, ◌∙◌, ◌≤ℤ◌, ◌<ℤ◌, ℕ, pos, Bool, true, false, List, [], ◌∷◌, ◌++◌, Option, Some, None, All, length, map, ap, ap₂, sym, refl, arith, unsigned_abs}
use Rattle.std.specs.Prelude.{if◌then◌else◌, ◌||◌}
use Rattle.std.specs.List.{AllByRecursion}
use Rattle.std.specs.Str.{bytes_eq}
use Rattle.std.proofs.lemmas.Bool.{false_from_ne_true}
use Rattle.std.proofs.lemmas.Slice.Eq.{bytes_eq-Decides}
use Rattle.std.proofs.lemmas.List.{append-nil, length-map, length-append}
use Rattle.std.proofs.lemmas.List.Elements.{recursion_from_All}
use Rattle.isl_space.specs.Name.{Name}
use Rattle.isl_space.specs.Names.{IsParameterList}
use Rattle.isl_space.specs.SpaceForm.{SpaceForm}
use Rattle.isl_piece.specs.declared.row.RowKind.{RowKind}
use Rattle.isl_piece.specs.declared.row.RowKind.TheVariants.{Zero, AtLeast, Divides, NotDivides}
use Rattle.isl_piece.specs.declared.definition.Definition.{Definition}
use Rattle.isl_piece.specs.declared.row.Row.{Row}
use Rattle.isl_piece.specs.Row.{HasModulus}
use Rattle.isl_piece.specs.Normal.{Kept, normal_row}
use Rattle.isl_union.specs.KeptValue.{KeptPiece, KeptValue, HasNoDefinitions, IsKeptPiece, IsKeptValue}
use Rattle.isl_row_text.specs.declared.sum.Side.TheVariants.{Left, Right}
use Rattle.isl_print.specs.Naming.{coordinate_names, column_names}
use Rattle.isl_print.specs.Ordered.{in_order}
use Rattle.isl_print.specs.OrderedValue.{ordered_piece, ordered}
use Rattle.isl_print.specs.PieceOrder.{piece_before}
use Rattle.isl_print.specs.RowOrder.{row_before}
use Rattle.isl_space.proofs.DistinctLaws.{Distinct, Apart, distinct_from}
use Rattle.isl_row_text.proofs.DistinctLaws.{coordinates_distinct, coordinates_apart}
use Rattle.isl_print.proofs.TextLaws.{length-column_names, All-in_order}
use Rattle.isl_tree.specs.Literal.{is_among, new_name, known_after, piece_entries}
use Rattle.isl_tree.specs.declared.tree.Signed.{Signed}
use Rattle.isl_tree.specs.declared.tree.Compare.{Compare}
use Rattle.isl_tree.specs.declared.tree.Compare.TheVariants.{Equal, GreaterEqual, Differs}
use Rattle.isl_tree.specs.Plain.{is_linear}
use Rattle.isl_plain.specs.Linear.{Place}
use Rattle.isl_plain.specs.Places.{place_among}
use Rattle.isl_plain.specs.Rows.{Written, equation, inequality, compared, kind_of_remainder, divided, added, written_entry, written_entries, written_from, written_chain, written_formula, written_list, written_body, rows_written}
use Rattle.isl_plain.proofs.ChainLaws.{written-And}
use Rattle.isl_plain.proofs.PlainLaws.{linear_no_remainder}
use Rattle.isl_plain.proofs.RemainderLaws.{parts_hidden}
use Rattle.isl_round_trip.specs.Tree.{side_tree, comparison_tree, remainder_tree, kind_tree, row_tree, conjunction_tree, name_entry, piece_tree, printed_tree}
use Rattle.isl_round_trip.specs.Written.{value_written, piece_written}
use Rattle.isl_round_trip.proofs.AddedLaws.{PlacedFrom, row_added, left_row_added}
use Rattle.isl_round_trip.proofs.LeftLaws.{IsLeftRow, divides_left, not_divides_left}
use Rattle.isl_round_trip.proofs.PlacedLaws.{columns_placed}
use Rattle.isl_round_trip.proofs.PlainTree.{side_linear, positive_magnitude}
use Rattle.isl_round_trip.proofs.TupleLaws.{entries-piece_tree, space-piece_tree}

-- ---- the entries bring in their names, so that they write no rows
not_known : (known : List Name) (name : Name) → Apart known (name ∷ []) → is_among known name ≡ false
not_known [] name apart = refl
not_known (other ∷ known) name apart =
    ap (λ (b : Bool). b || is_among known name) (false_from_ne_true (bytes_eq other name) (λ e. apart.0.0 ((bytes_eq-Decides other name).0 e))) ∙ not_known known name apart.1

apart_first : (known : List Name) (name : Name) (names : List Name) → Apart known (name ∷ names) → Apart known (name ∷ [])
apart_first [] name names apart = tt
apart_first (other ∷ known) name names apart = ((apart.0.0, tt), apart_first known name names apart.1)

pub apart_rest : (known : List Name) (name : Name) (names : List Name) → Apart known (name ∷ names) → Apart known names
apart_rest [] name names apart = tt
apart_rest (other ∷ known) name names apart = (apart.0.1, apart_rest known name names apart.1)

pub brings_in : (known : List Name) (name : Name) (names : List Name) → Apart known (name ∷ names) → new_name known (name_entry name) ≡ Some name
brings_in known name names apart = ap (λ (b : Bool). if b then None else Some name) (not_known known name (apart_first known name names apart))

entries_write_nothing : (known names : List Name) (at : ℕ) → Distinct names → Apart known names → written_entries known (map name_entry names) at ≡ []
entries_write_nothing known [] at distinct apart = refl
entries_write_nothing known (name ∷ names) at distinct apart =
    ap (λ o. written_then o) (brings_in known name names apart) ∙ entries_write_nothing (name ∷ known) names (at + 1) distinct.1 (distinct.0, apart_rest known name names apart)
  where
    written_then : Option Name → List Written
    written_then o = written_entry (name_entry name) at o ++ written_entries (known_after known o) (map name_entry names) (at + 1)

-- ---- the chains write the rows
-- what a row writes before it is added up
abbrev unadded : List Name → Row → RowKind → Written
unadded names row Zero = equation (side_tree Left names row.coefs row.constant) (side_tree Right names row.coefs row.constant) None
unadded names row AtLeast = inequality (side_tree Left names row.coefs row.constant) (side_tree Right names row.coefs row.constant) None
unadded names row Divides = divided (side_tree Left names row.coefs row.constant, pos (unsigned_abs row.k)) Equal
unadded names row NotDivides = divided (side_tree Left names row.coefs row.constant, pos (unsigned_abs row.k)) Differs

sides_write : (n : ℕ) (left right : List Signed) (compare : Compare) → is_linear left ≡ true → written_chain n (comparison_tree left compare right) ≡ compared n compare left right ∷ []
sides_write n left right compare linear = ap (λ o. written_from n o left ((compare, right ∷ []) ∷ [])) (linear_no_remainder left linear)

remainder_writes : (n : ℕ) (names : List Name) (row : Row) (compare : Compare)
    → written_chain n (remainder_tree compare names row) ≡ divided (side_tree Left names row.coefs row.constant, pos (unsigned_abs row.k)) compare ∷ []
remainder_writes n names row compare =
    ap (λ (term : List Signed). divided (term, pos (unsigned_abs row.k)) compare ∷ []) (parts_hidden (side_tree Left names row.coefs row.constant))

kind_writes : (n : ℕ) (names : List Name) (row : Row) (kind : RowKind) → written_chain n (kind_tree kind names row) ≡ unadded names row kind ∷ []
kind_writes n names row Zero =
    sides_write n (side_tree Left names row.coefs row.constant) (side_tree Right names row.coefs row.constant) Equal (side_linear Left names row.coefs row.constant)
kind_writes n names row AtLeast =
    sides_write n (side_tree Left names row.coefs row.constant) (side_tree Right names row.coefs row.constant) GreaterEqual (side_linear Left names row.coefs row.constant)
kind_writes n names row Divides = remainder_writes n names row Equal
kind_writes n names row NotDivides = remainder_writes n names row Differs

rows_write : (n : ℕ) (names : List Name) (rows : List Row) → written_list n (map (row_tree names) rows) ≡ map (λ row. unadded names row row.kind) rows
rows_write n names [] = refl
rows_write n names (row ∷ rows) = ap₂ (λ (xs ys : List Written). xs ++ ys) (kind_writes n names row row.kind) (rows_write n names rows)

-- a single row is a chain as it stands
lone_row : (n : ℕ) (names : List Name) (row : Row) (kind : RowKind) → written_formula n (kind_tree kind names row) ≡ written_chain n (kind_tree kind names row)
lone_row n names row Zero = refl
lone_row n names row AtLeast = refl
lone_row n names row Divides = refl
lone_row n names row NotDivides = refl

body_writes : (n : ℕ) (names : List Name) (rows : List Row) → written_body n (conjunction_tree (map (row_tree names) rows)) ≡ written_list n (map (row_tree names) rows)
body_writes n names [] = refl
body_writes n names (row ∷ []) = lone_row n names row row.kind ∙ sym (append-nil (written_chain n (row_tree names row)))
body_writes n names (row ∷ (other ∷ others)) = written-And n (map (row_tree names) (row ∷ (other ∷ others)))

-- a row that has one number for each name, a modulus of its kind, and is its own normal row
record Fits (names : List Name) (row : Row) : Type 0 where
  coefs : length names ≡ length row.coefs
  modulus : HasModulus row.kind row.k
  settled : normal_row row ≡ Kept row

module _ (n : ℕ) (place : Place) (names : List Name) (row : Row) (placed : PlacedFrom place 0 names) (same : length names ≡ length row.coefs)
    (width : n ≡ length row.coefs) where
  remainder_row : (compare : Compare) → kind_of_remainder compare ≡ row.kind → pos 0 <ℤ row.k → IsLeftRow row
      → added n place (divided (side_tree Left names row.coefs row.constant, pos (unsigned_abs row.k)) compare) ≡ row
  remainder_row compare kind positive left =
      left_row_added n place names row (divided (side_tree Left names row.coefs row.constant, pos (unsigned_abs row.k)) compare) placed same width
      (recursion_from_All (λ c. pos 0 ≤ℤ c) row.coefs left.coefs) left.constant kind (positive_magnitude row.k positive) refl refl refl

  kind_added : (kind : RowKind) → row.kind ≡ kind → HasModulus kind row.k → normal_row row ≡ Kept row → added n place (unadded names row kind) ≡ row
  kind_added Zero is modulus settled = row_added n place names row (unadded names row Zero) placed same width (sym is) (sym modulus) refl refl refl
  kind_added AtLeast is modulus settled = row_added n place names row (unadded names row AtLeast) placed same width (sym is) (sym modulus) refl refl refl
  kind_added Divides is modulus settled = remainder_row Equal (sym is) modulus (divides_left row is modulus settled)
  kind_added NotDivides is modulus settled = remainder_row Differs (sym is) modulus (not_divides_left row is modulus settled)

rows_added : (n : ℕ) (place : Place) (names : List Name) (rows : List Row) → PlacedFrom place 0 names → n ≡ length names → AllByRecursion (Fits names) rows
    → map (added n place) (map (λ row. unadded names row row.kind) rows) ≡ rows
rows_added n place names [] placed count all = refl
rows_added n place names (row ∷ rows) placed count all =
    ap₂ (λ (r : Row) (rs : List Row). r ∷ rs)
    (kind_added n place names row placed all.0.coefs (count ∙ all.0.coefs) row.kind refl all.0.modulus all.0.settled) (rows_added n place names rows placed count all.1)

-- ---- pieces
fit : (params : List Name) (piece : KeptPiece) → IsKeptPiece params piece → piece.definitions ≡ [] → All (Fits (column_names params piece.space)) piece.rows
fit params piece kept none = λ k d low. record {
  coefs = let w = (kept.rows k d low).width in omega (arith, w, length-column_names params piece.space, ap length none);
  modulus = (kept.rows k d low).modulus;
  settled = kept.normal.settled k d low;
}

pub rows-piece_tree : (params : List Name) (piece : KeptPiece) → IsParameterList params → IsKeptPiece params piece → piece.definitions ≡ []
    → rows_written params (piece_tree params piece) ≡ in_order row_before piece.rows
rows-piece_tree params piece list kept none =
    let tree = piece_tree params piece in
    let coordinates = coordinate_names params piece.space in
    let names = column_names params piece.space in
    let rows = in_order row_before piece.rows in
    let entries : piece_entries tree ≡ map name_entry coordinates = entries-piece_tree params piece in
    let n = length params + length (map name_entry coordinates) in
    let place = place_among params (map name_entry coordinates) n in
    let few = kept.space.narrow.coordinates in
    let distinct : Distinct coordinates = coordinates_distinct params piece.space (omega (arith, few)) in
    let apart : Apart params coordinates = coordinates_apart params piece.space in
    let count : n ≡ length names = omega (arith, length-map coordinates name_entry, length-append params coordinates) in
    ap (λ es. map (added (length params + length es) (place_among params es (length params + length es))) (written_entries params es (length params)
    ++ written_body (length params + length es) tree.body)) entries
    ∙ ap (λ ws. map (added n place) (ws ++ written_body n tree.body)) (entries_write_nothing params coordinates (length params) distinct apart)
    ∙ ap (map (added n place)) (body_writes n names rows ∙ rows_write n names rows)
    ∙ rows_added n place names rows (columns_placed params coordinates n (distinct_from params list.distinct) distinct apart) count
    (recursion_from_All (Fits names) rows (All-in_order row_before (Fits names) piece.rows (fit params piece kept none)))

-- the piece that defines no column
abbrev pub undefined : SpaceForm → List Row → KeptPiece
undefined space rows = record { space = space; definitions = []; rows = rows }

pub undefined-ordered : (piece : KeptPiece) → piece.definitions ≡ [] → undefined piece.space (in_order row_before piece.rows) ≡ ordered_piece piece
undefined-ordered piece none =
    ap (λ (ds : List Definition). let p : KeptPiece = record { space = piece.space; definitions = ds; rows = in_order row_before piece.rows } in p)
    (sym none)

piece-piece_tree : (params : List Name) (piece : KeptPiece) → IsParameterList params → IsKeptPiece params piece → piece.definitions ≡ []
    → piece_written params (piece_tree params piece) ≡ ordered_piece piece
piece-piece_tree params piece list kept none =
    ap₂ undefined (space-piece_tree params piece) (rows-piece_tree params piece list kept none) ∙ undefined-ordered piece none

pieces-piece_tree : (params : List Name) (pieces : List KeptPiece) → IsParameterList params → AllByRecursion (IsKeptPiece params) pieces
    → AllByRecursion (λ p. p.definitions ≡ []) pieces → map (piece_written params) (map (piece_tree params) pieces) ≡ map ordered_piece pieces
pieces-piece_tree params [] list kept none = refl
pieces-piece_tree params (piece ∷ pieces) list kept none =
    ap₂ (λ (p : KeptPiece) (ps : List KeptPiece). p ∷ ps) (piece-piece_tree params piece list kept.0 none.0)
    (pieces-piece_tree params pieces list kept.1 none.1)

-- ---- values
pub value-printed_tree : (value : KeptValue) → IsKeptValue value → HasNoDefinitions value → value_written (printed_tree value) ≡ ordered value
value-printed_tree value kept none =
    let pieces = in_order piece_before value.pieces in
    ap (λ ps. let v : KeptValue = record { params = value.params; pieces = ps } in v)
    (pieces-piece_tree value.params pieces kept.params
    (recursion_from_All (IsKeptPiece value.params) pieces (All-in_order piece_before (IsKeptPiece value.params) value.pieces kept.pieces))
    (recursion_from_All (λ p. p.definitions ≡ []) pieces (All-in_order piece_before (λ p. p.definitions ≡ []) value.pieces none)))
