-- A piece has a coordinate for each entry.
use Rattle.std.proofs.Common.{◌≡◌, ◌∙◌, refl, sym, ap, ap₂, ℕ, ◌+◌, List, [], ◌++◌, length, Option, Some, None, arith}
use Rattle.std.proofs.lemmas.List.{append-nil, length-append}
use mathlib.Core.Former.{Count, one_more, none_left}
use Rattle.isl_space.specs.Form.{width_of}
use Rattle.isl_space.specs.SpaceForm.{coordinates_of}
use Rattle.isl_tree.specs.declared.tree.Tuple.{Tuple, Leaf, Pair', Row_of-Tuple, end_of-Tuple, more_of-Tuple}
use Rattle.isl_tree.specs.declared.tree.PieceTree.{PieceTree}
use Rattle.isl_tree.specs.Literal.{form_of_tuple, form_of_row, entries_of, row_entries, second_entries, piece_entries, space_of_piece, space_of_tuples}

mutual
  tuple_width : (t : Tuple) → width_of (form_of_tuple t) ≡ length (entries_of t)
  tuple_width (Leaf name entries) = refl
  tuple_width (Pair' s left t right) =
      ap₂ (λ (m n : ℕ). m + n) (row_width left) (row_width right) ∙ sym (length-append (row_entries left) (row_entries right))

  row_width : (row : Row_of-Tuple (one_more none_left)) → width_of (form_of_row row) ≡ length (row_entries row)
  row_width (more_of-Tuple tuple end_of-Tuple) =
      tuple_width tuple ∙ ap (λ (l : List _). length l) (sym (append-nil (entries_of tuple)))

pub coordinates_are : (piece : PieceTree) → coordinates_of (space_of_piece piece) ≡ length (piece_entries piece)
coordinates_are piece = by piece.second
  where
    by : (o : Option Tuple) → coordinates_of (space_of_tuples (form_of_tuple piece.first) o)
        ≡ length (entries_of piece.first ++ second_entries o)
    by None =
        tuple_width piece.first ∙ ap (λ (l : List _). length l) (sym (append-nil (entries_of piece.first)))
    by (Some t) =
        ap₂ (λ (m n : ℕ). m + n) (tuple_width piece.first) (tuple_width t) ∙ sym (length-append (entries_of piece.first) (entries_of t))
