-- What is read of a printed value is the value again.
use Rattle.std.proofs.Common.{◌≡◌, ◌∙◌, ◌≤◌, suc, true, List, [], ◌∷◌, Some, map, ap, ap₂, sym, subst, refl, arith}
use Rattle.std.specs.Prelude.{option_map}
use Rattle.std.specs.List.{filter_map, cons_option, AllByRecursion}
use Rattle.std.proofs.lemmas.List.Elements.{recursion_from_All, All-map, All-weaker}
use Rattle.isl_space.specs.Limits.{most_leaves}
use Rattle.isl_space.specs.Name.{Name}
use Rattle.isl_space.specs.Names.{IsParameterList}
use Rattle.isl_space.specs.SpaceForm.{SpaceForm, IsWellFormedSpace}
use Rattle.isl_piece.specs.declared.row.Row.{Row}
use Rattle.isl_piece.specs.Normal.{normal_rows}
use Rattle.isl_union.specs.KeptValue.{KeptPiece, KeptValue, HasNoDefinitions, IsKeptPiece, IsKeptValue}
use Rattle.isl_union.proofs.LiveLaws.{live_every}
use Rattle.isl_print.specs.Joined.{Text}
use Rattle.isl_print.specs.Ordered.{in_order}
use Rattle.isl_print.specs.OrderedValue.{ordered_piece, ordered}
use Rattle.isl_print.specs.PieceOrder.{piece_before}
use Rattle.isl_print.specs.Printed.{printed}
use Rattle.isl_print.specs.RowOrder.{row_before}
use Rattle.isl_print.proofs.OrderedValueLaws.{IsKeptValue-ordered, Has-ordered, printed-ordered}
use Rattle.isl_print.proofs.TextLaws.{All-in_order}
use Rattle.isl_token.specs.TokenView.{Token}
use Rattle.isl_token.specs.Spelling.{Spells}
use Rattle.isl_token.proofs.Again.{always}
use Rattle.isl_token.proofs.Whole.{spells_one}
use Rattle.isl_text.specs.Literal.{literal, literal_grammar}
use Rattle.isl_text.proofs.LiteralLaws.{literal_taken, literal_again}
use Rattle.isl_tree.specs.declared.tree.PieceTree.{PieceTree}
use Rattle.isl_tree.specs.declared.tree.Literal.{Literal}
use Rattle.isl_tree.specs.Literal.{space_of_piece}
use Rattle.isl_tree.specs.Plain.{is_plain}
use Rattle.isl_lower.specs.Value.{IsLowered, IsWellFormedLiteral, piece_lowered, value_lowered}
use Rattle.isl_round_trip.specs.Tree.{piece_tree, printed_tree}
use Rattle.isl_round_trip.specs.Written.{HasWritableNumbers, IsUniform}
use Rattle.isl_round_trip.specs.RoundTrip.{Writes, IsWritableValue, HasElementsOf, ReadsAs, ReadsBack}
use Rattle.isl_tree.specs.Divisors.{ArePositive, piece_divisors}
use Rattle.isl_round_trip.proofs.DividedTree.{piece_divided}
use Rattle.isl_round_trip.proofs.KnownLaws.{printed_tree_known}
use Rattle.isl_round_trip.proofs.TupleLaws.{space-piece_tree}
use Rattle.isl_round_trip.proofs.WrittenLaws.{rows-piece_tree, undefined, undefined-ordered}
use Rattle.isl_round_trip.proofs.ValueTokenLaws.{printed_tokens, tokens-printed}
use Rattle.isl_round_trip.proofs.ValueSpelled.{outline_spelled}
use Rattle.isl_round_trip.proofs.FormedTree.{tree_formed}
use Rattle.isl_round_trip.proofs.PlainTree.{tree_plain}
use Rattle.isl_round_trip.proofs.WithinTree.{tree_within}

-- ---- the tokens of the text spell the tree
pub tree_at : (value : KeptValue) → IsKeptValue value → HasWritableNumbers value → IsUniform value → literal_grammar (suc (suc most_leaves)) (printed_tree value) (printed_tokens value)
tree_at value kept numbers uniform =
    let deep : most_leaves ≤ suc (suc most_leaves) = omega arith in
    (outline_spelled most_leaves value kept numbers deep, tree_formed value kept uniform)

pub tree_spelled : (value : KeptValue) → IsKeptValue value → HasWritableNumbers value → IsUniform value → Writes (printed value) (printed_tree value)
tree_spelled value kept numbers uniform =
    (printed_tokens value, tokens-printed value kept numbers, record { depth = suc (suc most_leaves); spelled = tree_at value kept numbers uniform })

pub some_same : (a b : List Token) → Some a ≡ Some b → a ≡ b
some_same a b e = cc

-- and no other tree
pub one_tree : (text : Text) (a b : Literal) → Writes text a → Writes text b → a ≡ b
one_tree text a b x y =
    let same : y.0 ≡ x.0 = some_same y.0 x.0 (sym y.1 ∙ x.1) in
    spells_one literal literal_grammar always literal_taken literal_again refl x.0 a b x.2 (subst (λ (ts : List Token). Spells literal_grammar b ts) same y.2)

-- ---- the rows are kept
piece_kept : (params : List Name) (piece : KeptPiece) → IsParameterList params → IsKeptPiece params piece → IsKeptPiece params (ordered_piece piece)
    → piece.definitions ≡ [] → piece_lowered params (piece_tree params piece) ≡ Some (ordered_piece piece)
piece_kept params piece list kept again none =
    let tree = piece_tree params piece in
    ap (λ (rows : List Row). option_map (undefined (space_of_piece tree)) (normal_rows rows)) (rows-piece_tree params piece list kept none)
    ∙ ap (option_map (undefined (space_of_piece tree))) again.normal.itself
    ∙ ap (λ (space : SpaceForm). Some (undefined space (in_order row_before piece.rows))) (space-piece_tree params piece)
    ∙ ap (λ (p : KeptPiece). Some p) (undefined-ordered piece none)

pieces_kept : (params : List Name) (pieces : List KeptPiece) → IsParameterList params → AllByRecursion (IsKeptPiece params) pieces
    → AllByRecursion (IsKeptPiece params) (map ordered_piece pieces) → AllByRecursion (λ p. p.definitions ≡ []) pieces
    → filter_map (piece_lowered params) (map (piece_tree params) pieces) ≡ map ordered_piece pieces
pieces_kept params [] list kept again none = refl
pieces_kept params (piece ∷ pieces) list kept again none =
    ap (λ o. cons_option o (filter_map (piece_lowered params) (map (piece_tree params) pieces)))
    (piece_kept params piece list kept.0 again.0 none.0)
    ∙ ap (λ ps. ordered_piece piece ∷ ps) (pieces_kept params pieces list kept.1 again.1 none.1)

pub tree_kept : (value : KeptValue) → IsKeptValue value → HasNoDefinitions value → value_lowered (printed_tree value) ≡ ordered value
tree_kept value kept none =
    let pieces = in_order piece_before value.pieces in
    let again = IsKeptValue-ordered value kept in
    ap (λ ps. let v : KeptValue = record { params = value.params; pieces = ps } in v)
    (pieces_kept value.params pieces kept.params
    (recursion_from_All (IsKeptPiece value.params) pieces (All-in_order piece_before (IsKeptPiece value.params) value.pieces kept.pieces))
    (recursion_from_All (IsKeptPiece value.params) (map ordered_piece pieces) again.pieces)
    (recursion_from_All (λ p. p.definitions ≡ []) pieces (All-in_order piece_before (λ p. p.definitions ≡ []) value.pieces none)))

-- each of the normal pieces has an element, so that what is read has them all
read_whole : (value other : KeptValue) (tree : Literal) → IsKeptValue value → is_plain tree ≡ true → value_lowered tree ≡ ordered value → IsLowered tree other → other ≡ ordered value
read_whole value other tree kept plain rows low =
    let again : IsKeptValue (value_lowered tree) = subst IsKeptValue (sym rows) (IsKeptValue-ordered value kept) in
    ap₂ (λ (names : List Name) (pieces : List KeptPiece). let v : KeptValue = record { params = names; pieces = pieces } in v) low.params
    (live_every tree.params (value_lowered tree).pieces other.pieces (low.plain plain) (λ i d l. (again.pieces i d l).live))
    ∙ rows

-- ---- what is declared
pub tree_well_formed : (value : KeptValue) → IsKeptValue value → IsWellFormedLiteral (printed_tree value)
tree_well_formed value kept =
    let pieces = in_order piece_before value.pieces in
    record {
      params = kept.params;
      spaces = All-map (λ (tree : PieceTree). IsWellFormedSpace (space_of_piece tree)) (piece_tree value.params) pieces
          (All-weaker (IsKeptPiece value.params) (λ p. IsWellFormedSpace (space_of_piece (piece_tree value.params p))) (λ p k. subst IsWellFormedSpace (sym (space-piece_tree value.params p)) k.space) pieces
          (All-in_order piece_before (IsKeptPiece value.params) value.pieces kept.pieces));
      divisors = All-map (λ (tree : PieceTree). ArePositive (piece_divisors tree)) (piece_tree value.params) pieces
          (All-weaker (IsKeptPiece value.params) (λ p. ArePositive (piece_divisors (piece_tree value.params p))) (λ p k. piece_divided value.params p k) pieces
          (All-in_order piece_before (IsKeptPiece value.params) value.pieces kept.pieces));
    }

-- ---- all together
pub reads_as : (value : KeptValue) → IsWritableValue value → ReadsAs (printed_tree value) value
reads_as value writable =
    let rows = tree_kept value writable.kept writable.definitions in
    let plain = tree_plain value writable.kept in
    record {
      plain = plain;
      within = tree_within value writable.kept;
      known = printed_tree_known value writable.kept;
      well_formed = tree_well_formed value writable.kept;
      rows = rows;
      read = λ other low. read_whole value other (printed_tree value) writable.kept plain rows low;
      elements = subst (λ (v : KeptValue). HasElementsOf v value) (sym rows) (Has-ordered value);
      again = ap printed rows ∙ printed-ordered value;
    }

pub reads_back : (value : KeptValue) → IsWritableValue value → ReadsBack value
reads_back value writable =
    let written = tree_spelled value writable.kept writable.numbers writable.uniform in
    record {
      literal = printed_tree value;
      written = written;
      only = λ other w. one_tree (printed value) other (printed_tree value) w written;
      read = reads_as value writable;
    }
