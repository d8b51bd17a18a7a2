-- The space of a piece of a literal has the coordinates and the leaves of its tuples.
use Rattle.std.proofs.Common.{◌≡◌, ◌∙◌, ◌+◌, ℕ, true, [], ◌++◌, length, Option, Some, None, refl, sym, ap, ap₂, arith}
use Rattle.std.specs.Prelude.{◌&&◌, nat_le}
use Rattle.std.proofs.lemmas.Bool.{and_parts, leb-true}
use Rattle.std.proofs.lemmas.List.{length-append, append-nil}
use Rattle.isl_space.specs.Form.{width_of, leaves_of}
use Rattle.isl_space.specs.SpaceForm.{coordinates_of, space_leaves_of, IsNarrowSpace}
use Rattle.isl_tree.specs.declared.tree.Tuple.{Tuple, Leaf, Pair', end_of-Tuple, more_of-Tuple}
use Rattle.isl_tree.specs.declared.tree.PieceTree.{PieceTree}
use Rattle.isl_tree.specs.Literal.{entries_of, second_entries, form_of_tuple, space_of_tuples, space_of_piece}
use Rattle.isl_text.specs.Bound.{bound_in}
use Rattle.isl_text.specs.Limits.{coordinates, leaves_in, leaves_in_image, leaves_of as leaves_of_piece, piece_is_within}

-- ---- tuples
tuple_width : (t : Tuple) → width_of (form_of_tuple t) ≡ length (entries_of t)
tuple_width (Leaf name entries) = refl
tuple_width (Pair' s (more_of-Tuple a end_of-Tuple) t (more_of-Tuple b end_of-Tuple)) =
    let xs = entries_of a in
    let ys = entries_of b in
    ap₂ (λ (m n : ℕ). m + n) (tuple_width a ∙ ap length (sym (append-nil xs))) (tuple_width b ∙ ap length (sym (append-nil ys)))
    ∙ sym (length-append (xs ++ []) (ys ++ []))

tuple_leaves : (t : Tuple) → leaves_of (form_of_tuple t) ≡ leaves_in t
tuple_leaves (Leaf name entries) = refl
tuple_leaves (Pair' s (more_of-Tuple a end_of-Tuple) t (more_of-Tuple b end_of-Tuple)) =
    let one = tuple_leaves a in
    let two = tuple_leaves b in
    omega (arith, one, two)

-- ---- pieces
space_width : (first : Tuple) (second : Option Tuple)
    → coordinates_of (space_of_tuples (form_of_tuple first) second) ≡ length (entries_of first ++ second_entries second)
space_width first None = tuple_width first ∙ ap length (sym (append-nil (entries_of first)))
space_width first (Some second) =
    ap₂ (λ (m n : ℕ). m + n) (tuple_width first) (tuple_width second) ∙ sym (length-append (entries_of first) (entries_of second))

space_leaves : (first : Tuple) (second : Option Tuple)
    → space_leaves_of (space_of_tuples (form_of_tuple first) second) ≡ leaves_in first + leaves_in_image second
space_leaves first None = let one = tuple_leaves first in omega (arith, one)
space_leaves first (Some second) = ap₂ (λ (m n : ℕ). m + n) (tuple_leaves first) (tuple_leaves second)

-- a piece within its limits lies in a space that is none too wide
pub narrow : (piece : PieceTree) → piece_is_within piece ≡ true → IsNarrowSpace (space_of_piece piece)
narrow piece within =
    let sizes = and_parts (nat_le (coordinates piece) 64 && nat_le (leaves_of_piece piece) 64) (nat_le (bound_in piece) 64) within in
    let both = and_parts (nat_le (coordinates piece) 64) (nat_le (leaves_of_piece piece) 64) sizes.0 in
    let wide = leb-true (coordinates piece) 64 both.0 in
    let many = leb-true (leaves_of_piece piece) 64 both.1 in
    record {
      coordinates = rw (space_width piece.first piece.second) wide;
      leaves = rw (space_leaves piece.first piece.second) many;
    }
