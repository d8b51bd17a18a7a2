-- Each identifier of a printed literal is known.
use mathlib.Core.Former.{Count}
use Rattle.std.proofs.Common.{◌≡◌, ◌∙◌, ℕ, ℤ, Bool, true, false, List, [], ◌∷◌, ◌++◌, Option, map, ap, sym, subst, refl, arith}
use Rattle.std.specs.Prelude.{◌==◌, ◌&&◌, ◌||◌, if◌then◌else◌, is_some}
use Rattle.std.specs.List.{list_all, AllByRecursion}
use Rattle.std.specs.Str.{bytes_eq}
use Rattle.std.proofs.lemmas.Bool.{and_from}
use Rattle.std.proofs.lemmas.Slice.Eq.{bytes_eq-Decides}
use Rattle.std.proofs.lemmas.List.{append-nil}
use Rattle.isl_space.specs.Name.{Name}
use Rattle.isl_piece.specs.declared.row.RowKind.{RowKind}
use Rattle.isl_piece.specs.declared.row.RowKind.TheVariants.{Zero, AtLeast, Divides, NotDivides}
use Rattle.isl_piece.specs.declared.row.Row.{Row}
use Rattle.isl_union.specs.KeptValue.{KeptPiece, KeptValue, IsKeptPiece, IsKeptValue}
use Rattle.isl_row_text.specs.declared.sum.Side.{Side}
use Rattle.isl_row_text.specs.declared.sum.Side.TheVariants.{Left, Right}
use Rattle.isl_print.specs.Naming.{coordinate_names, column_names}
use Rattle.isl_print.specs.Ordered.{in_order}
use Rattle.isl_print.specs.PieceOrder.{piece_before}
use Rattle.isl_print.specs.RowOrder.{row_before}
use Rattle.isl_print.specs.Sum.{share, terms_of}
use Rattle.isl_space.proofs.DistinctLaws.{Distinct, Apart}
use Rattle.isl_row_text.proofs.DistinctLaws.{coordinates_distinct, coordinates_apart}
use Rattle.isl_print.proofs.TextLaws.{All-in_order}
use Rattle.std.proofs.lemmas.List.Elements.{recursion_from_All}
use Rattle.isl_tree.specs.declared.tree.Signed.{Signed}
use Rattle.isl_tree.specs.declared.tree.Factor.{Row_of-Signed, end_of-Signed, more_of-Signed, items-the_row-Signed, items_hidden-the_row-Signed-0}
use Rattle.isl_tree.specs.declared.tree.Factor.TheBlock.{hidden-the_row-Signed-0}
use Rattle.isl_tree.specs.declared.tree.Factor.TheVariants as factor
use Rattle.isl_tree.specs.declared.tree.Compare.{Compare}
use Rattle.isl_tree.specs.declared.tree.Compare.TheVariants.{Equal, GreaterEqual, Differs as Unequal}
use Rattle.isl_tree.specs.declared.tree.Formula.{Formula, Row_of-Formula, end_of-Formula, more_of-Formula, items-the_row-Formula, items_hidden-the_row-Formula-0}
use Rattle.isl_tree.specs.declared.tree.Formula.TheBlock.{hidden-the_row-Formula-0}
use Rattle.isl_tree.specs.declared.tree.Formula.TheVariants as formula
use Rattle.isl_tree.specs.declared.tree.Entry.{Entry}
use Rattle.isl_tree.specs.Literal.{is_among, known_after, entry_term}
use Rattle.isl_tree.specs.Known.{factor_names, sum_names, signed_names, term_names, term_is_known, formula_is_known, formulas_are_known, entries_are_known, known_behind, body_is_known, piece_is_known, literal_is_known}
use Rattle.isl_round_trip.specs.Tree.{term_tree, number_tree, constant_trees, sum_tree, side_tree, comparison_tree, remainder_tree, kind_tree, row_tree, conjunction_tree, name_entry, piece_tree, printed_tree}
use Rattle.isl_round_trip.proofs.TupleLaws.{entries-piece_tree}
use Rattle.isl_round_trip.proofs.WrittenLaws.{brings_in, apart_rest}

-- ---- at the constructors of the code
names_of_row : (m : Count) (row : Row_of-Signed m) → sum_names row ≡ term_names (items-the_row-Signed m row)
names_of_row m end_of-Signed = refl
names_of_row m (more_of-Signed part rest) = ap (λ (l : List Name). signed_names part ++ l) (names_of_row _ rest)

names-Inner : (parts : List Signed) → factor_names (factor.Inner parts) ≡ term_names parts
names-Inner parts = names_of_row _ (hidden-the_row-Signed-0 parts) ∙ ap term_names (items_hidden-the_row-Signed-0 parts)

known_row : (known : List Name) (m : Count) (row : Row_of-Formula m) → formulas_are_known known row ≡ list_all (formula_is_known known) (items-the_row-Formula m row)
known_row known m end_of-Formula = refl
known_row known m (more_of-Formula f rest) = ap (λ (b : Bool). formula_is_known known f && b) (known_row known _ rest)

known-And : (known : List Name) (fs : List Formula) → formula_is_known known (formula.And fs) ≡ list_all (formula_is_known known) fs
known-And known fs = known_row known _ (hidden-the_row-Formula-0 fs) ∙ ap (list_all (formula_is_known known)) (items_hidden-the_row-Formula-0 fs)

-- ---- sums
-- each of the names is known
abbrev AllKnown : List Name → List Name → Type 0
AllKnown known [] = Unit {0}
AllKnown known (name ∷ names) = (is_among known name ≡ true) × AllKnown known names

module _ (known : List Name) where
  terms_known : (side : Side) (names : List Name) (numbers : List ℤ) (rest : List Signed) → AllKnown known names → term_is_known known rest ≡ true → term_is_known known (map term_tree (terms_of side names numbers) ++ rest) ≡ true
  terms_known side [] [] rest all known_rest = known_rest
  terms_known side [] (c ∷ numbers) rest all known_rest = known_rest
  terms_known side (name ∷ names) [] rest all known_rest = known_rest
  terms_known side (name ∷ names) (c ∷ numbers) rest all known_rest = by (share side c == 0) (terms_known side names numbers rest all.1 known_rest)
    where
      by : (q : Bool) → term_is_known known (map term_tree (terms_of side names numbers) ++ rest) ≡ true
          → term_is_known known (map term_tree (if q then terms_of side names numbers else (share side c, name) ∷ terms_of side names numbers) ++ rest) ≡ true
      by true again = again
      by false again = and_from (is_among known name) (term_is_known known (map term_tree (terms_of side names numbers) ++ rest)) all.0 again

  constant_known : (c : ℕ) → term_is_known known (constant_trees c) ≡ true
  constant_known c = by (c == 0)
    where
      by : (q : Bool) → term_is_known known (if q then [] else number_tree c ∷ []) ≡ true
      by true = refl
      by false = refl

  sum_known : (parts : List Signed) → term_is_known known parts ≡ true → term_is_known known (sum_tree parts) ≡ true
  sum_known [] all = refl
  sum_known (part ∷ parts) all = all

  pub side_known : (side : Side) (names : List Name) (numbers : List ℤ) (constant : ℤ) → AllKnown known names → term_is_known known (side_tree side names numbers constant) ≡ true
  side_known side names numbers constant all =
      sum_known (map term_tree (terms_of side names numbers) ++ constant_trees (share side constant)) (terms_known side names numbers (constant_trees (share side constant)) all (constant_known (share side constant)))

  -- ---- rows
  comparison_known : (left right : List Signed) (compare : Compare) → term_is_known known left ≡ true → term_is_known known right ≡ true → formula_is_known known (comparison_tree left compare right) ≡ true
  comparison_known left right compare a b = rw (a, b) refl

  remainder_known : (names : List Name) (row : Row) (compare : Compare) → AllKnown known names → formula_is_known known (remainder_tree compare names row) ≡ true
  remainder_known names row compare all =
      let inner = names-Inner (side_tree Left names row.coefs row.constant) in
      let left : list_all (is_among known) (factor_names (factor.Inner (side_tree Left names row.coefs row.constant)) ++ []) ≡ true =
      ap (list_all (is_among known)) (append-nil (factor_names (factor.Inner (side_tree Left names row.coefs row.constant))) ∙ inner) ∙ side_known Left names row.coefs row.constant all in
      rw left refl

  kind_known : (names : List Name) (row : Row) (kind : RowKind) → AllKnown known names → formula_is_known known (kind_tree kind names row) ≡ true
  kind_known names row Zero all = comparison_known (side_tree Left names row.coefs row.constant) (side_tree Right names row.coefs row.constant) Equal (side_known Left names row.coefs row.constant all) (side_known Right names row.coefs row.constant all)
  kind_known names row AtLeast all = comparison_known (side_tree Left names row.coefs row.constant) (side_tree Right names row.coefs row.constant) GreaterEqual (side_known Left names row.coefs row.constant all) (side_known Right names row.coefs row.constant all)
  kind_known names row Divides all = remainder_known names row Equal all
  kind_known names row NotDivides all = remainder_known names row Unequal all

  rows_known : (names : List Name) (rows : List Row) → AllKnown known names → list_all (formula_is_known known) (map (row_tree names) rows) ≡ true
  rows_known names [] all = refl
  rows_known names (row ∷ rows) all = and_from _ _ (kind_known names row row.kind all) (rows_known names rows all)

  body_known : (names : List Name) (rows : List Row) → AllKnown known names → body_is_known known (conjunction_tree (map (row_tree names) rows)) ≡ true
  body_known names [] all = refl
  body_known names (row ∷ []) all = kind_known names row row.kind all
  body_known names (row ∷ (other ∷ others)) all = known-And known (map (row_tree names) (row ∷ (other ∷ others))) ∙ rows_known names (row ∷ (other ∷ others)) all

-- ---- entries
entries_known : (known names : List Name) → Distinct names → Apart known names → entries_are_known known (map name_entry names) ≡ true
entries_known known [] distinct apart = refl
entries_known known (name ∷ names) distinct apart =
    ap (λ (o : Option Name). (is_some o || term_is_known known (entry_term (name_entry name))) && entries_are_known (known_after known o) (map name_entry names)) (brings_in known name names apart)
    ∙ entries_known (name ∷ known) names distinct.1 (distinct.0, apart_rest known name names apart)

-- what is known stays known
still_known : (known names : List Name) (name : Name) → Distinct names → Apart known names → is_among known name ≡ true → is_among (known_behind known (map name_entry names)) name ≡ true
still_known known [] name distinct apart is = is
still_known known (other ∷ names) name distinct apart is =
    ap (λ (o : Option Name). is_among (known_behind (known_after known o) (map name_entry names)) name) (brings_in known other names apart)
    ∙ still_known (other ∷ known) names name distinct.1 (distinct.0, apart_rest known other names apart) (more (bytes_eq other name))
  where
    more : (b : Bool) → (b || is_among known name) ≡ true
    more true = refl
    more false = is

still_all_known : (known names others : List Name) → Distinct names → Apart known names → AllKnown known others → AllKnown (known_behind known (map name_entry names)) others
still_all_known known names [] distinct apart all = tt
still_all_known known names (name ∷ others) distinct apart all = (still_known known names name distinct apart all.0, still_all_known known names others distinct apart all.1)

names_known : (known names : List Name) → Distinct names → Apart known names → AllKnown (known_behind known (map name_entry names)) names
names_known known [] distinct apart = tt
names_known known (name ∷ names) distinct apart =
    let itself : is_among (name ∷ known) name ≡ true = ap (λ (b : Bool). b || is_among known name) ((bytes_eq-Decides name name).1 refl) in
    let further : Apart (name ∷ known) names = (distinct.0, apart_rest known name names apart) in
    subst (λ (o : Option Name). AllKnown (known_behind (known_after known o) (map name_entry names)) (name ∷ names)) (sym (brings_in known name names apart))
    (still_known (name ∷ known) names name distinct.1 further itself, names_known (name ∷ known) names distinct.1 further)

among_itself : (known : List Name) (name : Name) → is_among (name ∷ known) name ≡ true
among_itself known name = ap (λ (b : Bool). b || is_among known name) ((bytes_eq-Decides name name).1 refl)

more_known : (other : Name) (known names : List Name) → AllKnown known names → AllKnown (other ∷ known) names
more_known other known [] all = tt
more_known other known (name ∷ names) all = (by (bytes_eq other name), more_known other known names all.1)
  where
    by : (b : Bool) → (b || is_among known name) ≡ true
    by true = refl
    by false = all.0

own_known : (names : List Name) → AllKnown names names
own_known [] = tt
own_known (name ∷ names) = (among_itself names name, more_known name names names (own_known names))

all_known-append : (known xs ys : List Name) → AllKnown known xs → AllKnown known ys → AllKnown known (xs ++ ys)
all_known-append known [] ys a b = b
all_known-append known (x ∷ xs) ys a b = (a.0, all_known-append known xs ys a.1 b)

-- ---- pieces and values
pub piece_tree_known : (params : List Name) (piece : KeptPiece) → IsKeptPiece params piece → piece_is_known params (piece_tree params piece) ≡ true
piece_tree_known params piece kept =
    let tree = piece_tree params piece in
    let coordinates = coordinate_names params piece.space in
    let few = kept.space.narrow.coordinates in
    let distinct : Distinct coordinates = coordinates_distinct params piece.space (omega (arith, few)) in
    let apart : Apart params coordinates = coordinates_apart params piece.space in
    let behind = known_behind params (map name_entry coordinates) in
    let all : AllKnown behind (column_names params piece.space) =
    all_known-append behind params coordinates (still_all_known params coordinates params distinct apart (own_known params)) (names_known params coordinates distinct apart) in
    ap (λ (es : List Entry). entries_are_known params es && body_is_known (known_behind params es) tree.body) (entries-piece_tree params piece)
    ∙ and_from _ _ (entries_known params coordinates distinct apart) (body_known behind (column_names params piece.space) (in_order row_before piece.rows) all)

pieces_known : (params : List Name) (pieces : List KeptPiece) → AllByRecursion (IsKeptPiece params) pieces → list_all (piece_is_known params) (map (piece_tree params) pieces) ≡ true
pieces_known params [] all = refl
pieces_known params (piece ∷ pieces) all = and_from _ _ (piece_tree_known params piece all.0) (pieces_known params pieces all.1)

pub printed_tree_known : (value : KeptValue) → IsKeptValue value → literal_is_known (printed_tree value) ≡ true
printed_tree_known value kept =
    pieces_known value.params (in_order piece_before value.pieces)
    (recursion_from_All (IsKeptPiece value.params) (in_order piece_before value.pieces) (All-in_order piece_before (IsKeptPiece value.params) value.pieces kept.pieces))
