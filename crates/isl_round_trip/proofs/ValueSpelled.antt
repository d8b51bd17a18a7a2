-- The tokens of a printed value spell its tree.
use Rattle.std.proofs.Common.{◌≡◌, ◌≢◌, ◌≤◌, ◌+◌, ◌∙◌, ℕ, ℤ, pos, negsuc, suc, List, [], ◌∷◌, ◌++◌, Option, Some, None, All, length, map, inl, inr, ap, sym, refl, arith}
use Rattle.std.specs.Prelude.{codes, drop, unsigned_abs, ◌-◌}
use Rattle.std.specs.List.{AllByRecursion}
use Rattle.std.proofs.lemmas.List.{append_assoc, append-nil}
use Rattle.std.proofs.lemmas.List.Elements.{recursion_from_All, All-weaker}
use Rattle.isl_math.proofs.Ring.{linear}
use Rattle.isl_space.specs.Limits.{most_leaves}
use Rattle.isl_space.specs.Name.{Name, IsLiteralName}
use Rattle.isl_space.specs.Form.{width_of}
use Rattle.isl_space.specs.SpaceForm.{SpaceForm, set_of, map_of, space_leaves_of}
use Rattle.isl_piece.specs.declared.row.RowKind.{RowKind}
use Rattle.isl_piece.specs.declared.row.RowKind.TheVariants.{Zero, AtLeast, Divides, NotDivides}
use Rattle.isl_piece.specs.Row.{HasModulus, IsRowUpTo, IsWellFormed}
use Rattle.isl_union.specs.KeptValue.{KeptPiece, KeptValue, IsKeptPiece, IsKeptValue, columns_of}
use Rattle.isl_print.specs.Naming.{coordinate_names, column_names}
use Rattle.isl_print.specs.Ordered.{in_order}
use Rattle.isl_print.specs.PieceOrder.{piece_before}
use Rattle.isl_print.specs.RowOrder.{row_before}
use Rattle.isl_row_text.proofs.LiteralNameLaws.{coordinates_named, columns_named}
use Rattle.isl_print.proofs.TextLaws.{All-in_order}
use Rattle.isl_token.specs.declared.token.Kind.TheVariants as k
use Rattle.isl_token.specs.Token.{kind_of, sign_kind}
use Rattle.isl_token.specs.Number.{too_great}
use Rattle.isl_token.specs.Spelling as s
use Rattle.isl_tree.specs.declared.tree.Formula.{Formula}
use Rattle.isl_tree.specs.declared.tree.Tuple.{Tuple}
use Rattle.isl_tree.specs.declared.tree.PieceTree.{PieceTree}
use Rattle.isl_formula.specs.FormulaGrammar as spell
use Rattle.isl_text.specs.Piece.{make_piece}
use Rattle.isl_text.specs.LiteralGrammar as literal
use Rattle.isl_round_trip.specs.Tree.{row_tree, conjunction_tree, tuple_tree, first_tree, second_tree, piece_tree, printed_tree}
use Rattle.isl_round_trip.specs.Written.{HasWritableNumbers}
use Rattle.isl_round_trip.proofs.TokenLaws.{Tokens, sign, word, AreNamed, IsNamedSpaceForm, each_tokens, row_tokens, conjunction_tokens, names_tokens, tuple_tokens, tuples_tokens, named_drop}
use Rattle.isl_round_trip.proofs.TermSpelled.{name_spelled}
use Rattle.isl_round_trip.proofs.ValueTokenLaws.{piece_tokens, params_tokens, pieces_tokens, printed_tokens, named_from, named_space, writable_rows}
use Rattle.isl_round_trip.proofs.LiteralSpelled.{Spelled, more_spelled, comma_is, open_is, close_is, arrow_is, condition_spelled, HasSomeDivisor, rows_spelled, tuple_spelled}

open_brace_is : kind_of (sign (codes "{")) ≡ k.OpenBrace
unfolding sign_kind
open_brace_is = refl

close_brace_is : kind_of (sign (codes "}")) ≡ k.CloseBrace
unfolding sign_kind
close_brace_is = refl

semicolon_is : kind_of (sign (codes ";")) ≡ k.Semicolon
unfolding sign_kind
semicolon_is = refl

-- a row has a divisor that is not 0
some_divisor : (kind : RowKind) (z : ℤ) → HasModulus kind z → unsigned_abs z ≢ 0
some_divisor Zero z is none = let one : unsigned_abs z ≡ 1 = ap unsigned_abs is in absurd (omega (arith, one, none))
some_divisor AtLeast z is none = let one : unsigned_abs z ≡ 1 = ap unsigned_abs is in absurd (omega (arith, one, none))
some_divisor Divides (pos n) above none = absurd (omega (arith, linear, above, none))
some_divisor Divides (negsuc n) above none = absurd (omega (arith, linear, above))
some_divisor NotDivides (pos n) above none = absurd (omega (arith, linear, above, none))
some_divisor NotDivides (negsuc n) above none = absurd (omega (arith, linear, above))

-- ---- the declared names
each_name_spelled : (names : List Name) → AreNamed names → Spelled s.name names (map (λ name. word name ∷ []) names)
each_name_spelled [] all = tt
each_name_spelled (name ∷ names) all = (name_spelled name all.0, each_name_spelled names all.1)

name_row_spelled : (name : Name) (names : List Name) → AreNamed (name ∷ names) → literal.name_row (name ∷ names) (names_tokens (name ∷ names))
name_row_spelled name names all =
    let rest = each_tokens (sign (codes ",") ∷ []) (map (λ n. word n ∷ []) names) in (
      name,
      word name ∷ [],
      rest,
      refl,
      name_spelled name all.0,
      (names, rest, [], sym (append-nil rest), more_spelled s.name k.Comma (sign (codes ",")) comma_is names (map (λ n. word n ∷ []) names) (each_name_spelled names all.1), (refl, refl)),
    )

params_spelled : (names : List Name) → AreNamed names → s.◌∪◌ literal.declared (s.pure []) names (params_tokens names)
params_spelled [] all = inr (refl, refl)
params_spelled (name ∷ names) all =
    let inside = names_tokens (name ∷ names) in
    let arrow = sign (codes "->") ∷ [] in
    inl (
      tt,
      sign (codes "[") ∷ [],
      inside ++ (sign (codes "]") ∷ arrow),
      refl,
      (sign (codes "["), refl, open_is),
      (
        name ∷ names,
        inside,
        sign (codes "]") ∷ arrow,
        refl,
        inr (name_row_spelled name names all),
        (
          tt,
          sign (codes "]") ∷ [],
          arrow,
          refl,
          (sign (codes "]"), refl, close_is),
          (tt, arrow, [], refl, (sign (codes "->"), refl, arrow_is), (refl, refl)),
        ),
      ),
    )

-- with brackets nested to any depth but the least ones
module _ (n : ℕ) where
  abbrev tuple_at : s.Grammar Tuple
  tuple_at = literal.tuple (suc (suc n))

  abbrev formula_at : s.Grammar Formula
  formula_at = spell.formula (suc (suc n))

  abbrev piece_at : s.Grammar PieceTree
  piece_at = literal.piece tuple_at formula_at

  -- ---- pieces
  -- the tuples, and a condition behind them
  tuples_spelled : (space : SpaceForm) (names : List Name) (body : Option Formula) (held : Tokens) → space_leaves_of space ≤ suc (suc n) → IsNamedSpaceForm space → AreNamed names
      → literal.condition tuple_at formula_at body held → piece_at (make_piece (first_tree space names) (second_tree space names) body) (tuples_tokens space names ++ held)
  tuples_spelled (set_of form) names body held low h all c = (
    tuple_tree form names,
    tuple_tokens form names,
    held,
    refl,
    tuple_spelled form names (suc (suc n)) low h all,
    (None, [], held, refl, inr (refl, refl), (body, held, [], sym (append-nil held), c, (refl, refl))),
  )
  tuples_spelled (map_of from to) names body held low h all c =
      let rest = drop (width_of from) names in
      let fs = tuple_tokens from names in
      let ts = tuple_tokens to rest in
      let arrow = sign (codes "->") ∷ [] in
      let grouped : fs ++ arrow ++ ts ++ held ≡ fs ++ ((sign (codes "->") ∷ ts) ++ held) = ap (λ l. l ++ held) (append_assoc fs arrow ts) ∙ append_assoc fs (sign (codes "->") ∷ ts) held in (
        tuple_tree from names,
        fs,
        (sign (codes "->") ∷ ts) ++ held,
        grouped,
        tuple_spelled from names (suc (suc n)) (omega (arith, low)) h.0 all,
        (
          Some (tuple_tree to rest),
          sign (codes "->") ∷ ts,
          held,
          refl,
          inl (
            tuple_tree to rest,
            sign (codes "->") ∷ ts,
            [],
            sym (append-nil (sign (codes "->") ∷ ts)),
            (tt, arrow, ts, refl, (sign (codes "->"), refl, arrow_is), tuple_spelled to rest (suc (suc n)) (omega (arith, low)) h.1 (named_drop (width_of from) names all)),
            (refl, refl),
          ),
          (body, held, [], sym (append-nil held), c, (refl, refl)),
        ),
      )

  piece_spelled : (params : List Name) (piece : KeptPiece) → All IsLiteralName params → IsKeptPiece params piece → All (IsRowUpTo (too_great - 1)) piece.rows → most_leaves ≤ suc (suc n)
      → piece_at (piece_tree params piece) (piece_tokens params piece)
  piece_spelled params piece names kept numbers deep =
      let few = kept.space.narrow.coordinates in
      let leaves = kept.space.narrow.leaves in
      let columns = column_names params piece.space in
      let rows = in_order row_before piece.rows in
      let all = named_from columns (columns_named params piece.space names (omega (arith, few))) in
      let writable = writable_rows rows (recursion_from_All (IsRowUpTo (too_great - 1)) rows (All-in_order row_before (IsRowUpTo (too_great - 1)) piece.rows numbers)) in
      let some : All (HasSomeDivisor n) piece.rows = All-weaker (IsWellFormed (length piece.definitions + columns_of params piece.space)) (HasSomeDivisor n) (λ r w. some_divisor r.kind r.k w.modulus) piece.rows kept.rows in
      let divisors = recursion_from_All (HasSomeDivisor n) rows (All-in_order row_before (HasSomeDivisor n) piece.rows some) in
      tuples_spelled piece.space (coordinate_names params piece.space) (conjunction_tree (map (row_tree columns) rows)) (conjunction_tokens (map (row_tokens columns) rows)) (omega (arith, leaves, deep))
      (named_space piece.space kept.space.named) (named_from (coordinate_names params piece.space) (coordinates_named params piece.space (omega (arith, few))))
      (condition_spelled n (map (row_tree columns) rows) (map (row_tokens columns) rows) (rows_spelled n columns rows all writable divisors))

  pieces_spelled : (params : List Name) (pieces : List KeptPiece) → All IsLiteralName params → AllByRecursion (IsKeptPiece params) pieces → AllByRecursion (λ p. All (IsRowUpTo (too_great - 1)) p.rows) pieces → most_leaves ≤ suc (suc n)
      → Spelled piece_at (map (piece_tree params) pieces) (map (piece_tokens params) pieces)
  pieces_spelled params [] names kept numbers deep = tt
  pieces_spelled params (piece ∷ pieces) names kept numbers deep = (piece_spelled params piece names kept.0 numbers.0 deep, pieces_spelled params pieces names kept.1 numbers.1 deep)

  braces_spelled : (trees : List PieceTree) (tss : List Tokens) → Spelled piece_at trees tss → literal.braces tuple_at formula_at trees (pieces_tokens tss)
  braces_spelled [] [] all = (
    tt,
    sign (codes "{") ∷ [],
    sign (codes "}") ∷ [],
    refl,
    (sign (codes "{"), refl, open_brace_is),
    ([], [], sign (codes "}") ∷ [], refl, inl (refl, refl), (tt, sign (codes "}") ∷ [], [], refl, (sign (codes "}"), refl, close_brace_is), (refl, refl))),
  )
  braces_spelled [] (ts ∷ tss) all = absurd all
  braces_spelled (tree ∷ trees) [] all = absurd all
  braces_spelled (tree ∷ trees) (ts ∷ tss) all =
      let rest = each_tokens (sign (codes ";") ∷ []) tss in
      let inside = ts ++ rest in
      let close = sign (codes "}") ∷ [] in (
        tt,
        sign (codes "{") ∷ [],
        inside ++ close,
        refl,
        (sign (codes "{"), refl, open_brace_is),
        (
          tree ∷ trees,
          inside,
          close,
          refl,
          inr (tree, ts, rest, refl, all.0, (trees, rest, [], sym (append-nil rest), more_spelled piece_at k.Semicolon (sign (codes ";")) semicolon_is trees tss all.1, (refl, refl))),
          (tt, close, [], refl, (sign (codes "}"), refl, close_brace_is), (refl, refl)),
        ),
      )

  -- ---- values
  pub outline_spelled : (value : KeptValue) → IsKeptValue value → HasWritableNumbers value → most_leaves ≤ suc (suc n) → literal.outline_of (suc (suc n)) (printed_tree value) (printed_tokens value)
  outline_spelled value kept numbers deep =
      let pieces = in_order piece_before value.pieces in
      let trees = map (piece_tree value.params) pieces in
      let tss = map (piece_tokens value.params) pieces in
      let each = pieces_spelled value.params pieces kept.params.named
      (recursion_from_All (IsKeptPiece value.params) pieces (All-in_order piece_before (IsKeptPiece value.params) value.pieces kept.pieces))
      (recursion_from_All (λ p. All (IsRowUpTo (too_great - 1)) p.rows) pieces (All-in_order piece_before (λ p. All (IsRowUpTo (too_great - 1)) p.rows) value.pieces (λ i d low. (numbers i d low).rows))) deep in (
        value.params,
        params_tokens value.params,
        pieces_tokens tss,
        refl,
        params_spelled value.params (named_from value.params kept.params.named),
        (trees, pieces_tokens tss, [], sym (append-nil (pieces_tokens tss)), braces_spelled trees tss each, (refl, refl)),
      )
