-- The tokens of printed pieces and values.
use Rattle.std.proofs.Common.{◌≡◌, ◌<◌, ◌≤◌, ℕ, ℤ, List, [], ◌∷◌, ◌++◌, Some, None, All, map, refl, arith, lit<}
use Rattle.std.specs.Prelude.{codes, unsigned_abs, ◌-◌}
use Rattle.std.specs.List.{AllByRecursion}
use Rattle.std.proofs.lemmas.List.Elements.{recursion_from_All}
use Rattle.isl_space.specs.Name.{Name, IsLiteralName}
use Rattle.isl_space.specs.Form.{Form, leaf, pair, IsNamed}
use Rattle.isl_space.specs.SpaceForm.{SpaceForm, set_of, map_of, IsNamedSpace}
use Rattle.isl_piece.specs.declared.row.Row.{Row}
use Rattle.isl_piece.specs.Row.{IsRowUpTo}
use Rattle.isl_union.specs.KeptValue.{KeptPiece, KeptValue, IsKeptPiece, IsKeptValue}
use Rattle.isl_print.specs.Joined.{Text, joined_by}
use Rattle.isl_print.specs.Naming.{coordinate_names, column_names}
use Rattle.isl_print.specs.Ordered.{in_order}
use Rattle.isl_print.specs.PieceOrder.{piece_before}
use Rattle.isl_print.specs.RowOrder.{row_before}
use Rattle.isl_print.specs.RowText.{row_text, conjunction_text}
use Rattle.isl_print.specs.Tuple.{tuples_text}
use Rattle.isl_print.specs.Printed.{piece_text, params_text, pieces_text, printed}
use Rattle.isl_row_text.proofs.LiteralNameLaws.{coordinates_named, columns_named}
use Rattle.isl_print.proofs.TextLaws.{All-in_order}
use Rattle.isl_token.specs.Lex.{tokens}
use Rattle.isl_token.specs.Number.{too_great}
use Rattle.isl_token.proofs.Prints.{Prints, any, blank_prints, prints_nil, prints_whole}
use Rattle.isl_token.proofs.SignPrints.{whole_sign_prints}
use Rattle.isl_round_trip.specs.Written.{HasWritableNumbers}
use Rattle.isl_round_trip.proofs.TokenLaws.{Tokens, AllPrint, after_item, AreNamed, AreSmall, IsSmall, IsWritableRow, AreWritableRows, IsNamedForm, IsNamedSpaceForm, sign, joined_tokens, names_tokens, row_tokens, conjunction_tokens, tuples_tokens, then_prints, loose_prints, joined_print, names_print, rows_print, conjunction_prints, tuples_print, arrow_between}

abbrev pub piece_tokens : List Name → KeptPiece → Tokens
piece_tokens params piece = tuples_tokens piece.space (coordinate_names params piece.space) ++ conjunction_tokens
    (map (row_tokens (column_names params piece.space)) (in_order row_before piece.rows))

abbrev pub params_tokens : List Name → Tokens
params_tokens [] = []
params_tokens (name ∷ names) = sign (codes "[") ∷ [] ++ names_tokens (name ∷ names) ++ (sign (codes "]") ∷ sign (codes "->") ∷ [])

abbrev pub pieces_tokens : List Tokens → Tokens
pieces_tokens [] = sign (codes "{") ∷ sign (codes "}") ∷ []
pieces_tokens (ts ∷ tss) = sign (codes "{") ∷ [] ++ joined_tokens (sign (codes ";") ∷ []) (ts ∷ tss) ++ sign (codes "}") ∷ []

abbrev pub printed_tokens : KeptValue → Tokens
printed_tokens value = params_tokens value.params ++ pieces_tokens (map (piece_tokens value.params) (in_order piece_before value.pieces))

-- ---- the same facts by recursion
pub named_from : (names : List Name) → All IsLiteralName names → AreNamed names
named_from names all = by names (recursion_from_All IsLiteralName names all)
  where
    by : (l : List Name) → AllByRecursion IsLiteralName l → AreNamed l
    by [] all = tt
    by (name ∷ l) all = (all.0, by l all.1)

pub named_form : (form : Form) → IsNamed form → IsNamedForm form
named_form (leaf None width) h = tt
named_form (leaf (Some name) width) h = h
named_form (pair left right) h = (named_form left h.0, named_form right h.1)

pub named_space : (space : SpaceForm) → IsNamedSpace space → IsNamedSpaceForm space
named_space (set_of form) h = named_form form h
named_space (map_of from to) h = (named_form from h.0, named_form to h.1)

small_from : (zs : List ℤ) → AllByRecursion (λ z. IsSmall (unsigned_abs z)) zs → AreSmall zs
small_from [] all = tt
small_from (z ∷ zs) all = (all.0, small_from zs all.1)

below_limit : (n : ℕ) → n ≤ too_great - 1 → IsSmall n
below_limit n h = let some : 0 < too_great = lit< tt in omega (arith, h, some)

writable_row : (row : Row) → IsRowUpTo (too_great - 1) row → IsWritableRow row
writable_row row h = record {
  coefs = small_from row.coefs (recursion_from_All (λ z. IsSmall (unsigned_abs z)) row.coefs (λ k d low. below_limit _ (h.coefs k d low)));
  constant = below_limit _ h.constant;
  k = below_limit _ h.k;
}

pub writable_rows : (rows : List Row) → AllByRecursion (IsRowUpTo (too_great - 1)) rows → AreWritableRows rows
writable_rows [] all = tt
writable_rows (row ∷ rows) all = (writable_row row all.0, writable_rows rows all.1)

-- ---- pieces
pub piece_prints : (params : List Name) (piece : KeptPiece) → All IsLiteralName params → IsKeptPiece params piece → All
    (IsRowUpTo (too_great - 1)) piece.rows
    → Prints (piece_text params piece) (piece_tokens params piece) after_item
piece_prints params piece names kept numbers =
    let few = kept.space.narrow.coordinates in
    let columns = column_names params piece.space in
    let rows = in_order row_before piece.rows in
    let all = named_from columns (columns_named params piece.space names (omega (arith, few))) in
    let writable = writable_rows rows
    (recursion_from_All (IsRowUpTo (too_great - 1)) rows (All-in_order row_before (IsRowUpTo (too_great - 1)) piece.rows numbers)) in
    loose_prints (tuples_text piece.space (coordinate_names params piece.space)) (conjunction_text (map (row_text columns) rows))
    (tuples_tokens piece.space (coordinate_names params piece.space)) (conjunction_tokens (map (row_tokens columns) rows)) after_item
    (tuples_print piece.space (coordinate_names params piece.space) (named_space piece.space kept.space.named)
    (named_from (coordinate_names params piece.space) (coordinates_named params piece.space (omega (arith, few)))))
    (conjunction_prints (map (row_text columns) rows) (map (row_tokens columns) rows) (rows_print columns rows all writable))

pieces_print_each : (params : List Name) (pieces : List KeptPiece) → All IsLiteralName params → AllByRecursion
    (IsKeptPiece params) pieces → AllByRecursion (λ p. All (IsRowUpTo (too_great - 1)) p.rows) pieces
    → AllPrint (map (piece_text params) pieces) (map (piece_tokens params) pieces)
pieces_print_each params [] names kept numbers = tt
pieces_print_each params (piece ∷ pieces) names kept numbers =
    (piece_prints params piece names kept.0 numbers.0, pieces_print_each params pieces names kept.1 numbers.1)

semicolon_between : Prints (codes "; ") (sign (codes ";") ∷ []) any
semicolon_between = loose_prints (codes ";") (codes " ") (sign (codes ";") ∷ []) [] any (whole_sign_prints (codes ";") refl) blank_prints

open_braces : Prints (codes "{ ") (sign (codes "{") ∷ []) any
open_braces = loose_prints (codes "{") (codes " ") (sign (codes "{") ∷ []) [] any (whole_sign_prints (codes "{") refl) blank_prints

close_braces : Prints (codes " }") (sign (codes "}") ∷ []) any
close_braces = loose_prints (codes " ") (codes "}") [] (sign (codes "}") ∷ []) any blank_prints (whole_sign_prints (codes "}") refl)

pieces_print : (texts : List Text) (tss : List Tokens) → AllPrint texts tss → Prints (pieces_text texts) (pieces_tokens tss) any
pieces_print [] [] all = loose_prints (codes "{ ") (codes "}") (sign (codes "{") ∷ []) (sign (codes "}") ∷ []) any open_braces
    (whole_sign_prints (codes "}") refl)
pieces_print [] (ts ∷ tss) all = absurd all
pieces_print (text ∷ texts) [] all = absurd all
pieces_print (text ∷ texts) (ts ∷ tss) all =
    let inside = joined_by (codes "; ") (text ∷ texts) in
    let ins = joined_tokens (sign (codes ";") ∷ []) (ts ∷ tss) in
    then_prints (codes "{ " ++ inside) (codes " }") (sign (codes "{") ∷ [] ++ ins) (sign (codes "}") ∷ []) any
    (loose_prints (codes "{ ") inside
    (sign (codes "{") ∷ []) ins after_item open_braces
    (joined_print (codes "; ") (sign (codes ";") ∷ []) semicolon_between (λ z. refl) (text ∷ texts) (ts ∷ tss) all))
    close_braces (λ z. refl)

-- ---- the declared names
params_print : (names : List Name) → AreNamed names → Prints (params_text names) (params_tokens names) any
params_print [] all = prints_nil any
params_print (name ∷ names) all =
    let inside = joined_by (codes ", ") (name ∷ names) in
    let ins = names_tokens (name ∷ names) in
    then_prints (codes "[" ++ inside) (codes "] -> ") (sign (codes "[") ∷ [] ++ ins) (sign (codes "]") ∷ sign (codes "->") ∷ []) any
    (loose_prints (codes "[") inside
    (sign (codes "[") ∷ []) ins after_item (whole_sign_prints (codes "[") refl) (names_print (name ∷ names) all))
    (loose_prints (codes "]") (codes " -> ") (sign (codes "]") ∷ []) (sign (codes "->") ∷ []) any
    (whole_sign_prints (codes "]") refl) arrow_between) (λ z. refl)

-- the tokens of the text
pub tokens-printed : (value : KeptValue) → IsKeptValue value → HasWritableNumbers value → tokens (printed value) ≡ Some
    (printed_tokens value)
tokens-printed value kept numbers =
    let pieces = in_order piece_before value.pieces in
    let each = pieces_print_each value.params pieces kept.params.named
    (recursion_from_All (IsKeptPiece value.params) pieces (All-in_order piece_before (IsKeptPiece value.params) value.pieces kept.pieces))
    (recursion_from_All (λ p. All (IsRowUpTo (too_great - 1)) p.rows) pieces
    (All-in_order piece_before (λ p. All (IsRowUpTo (too_great - 1)) p.rows) value.pieces (λ i d low. (numbers i d low).rows))) in
    prints_whole (printed value) (printed_tokens value) any
    (loose_prints (params_text value.params) (pieces_text (map (piece_text value.params) pieces)) (params_tokens value.params)
    (pieces_tokens (map (piece_tokens value.params) pieces)) any
    (params_print value.params (named_from value.params kept.params.named))
    (pieces_print (map (piece_text value.params) pieces) (map (piece_tokens value.params) pieces) each)) refl
