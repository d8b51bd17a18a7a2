-- The forms of tuples.
use Rattle.std.proofs.Common.{◌≡◌, ◌∙◌, refl, sym, ap, subst, ℕ, ◌+◌, ◌<◌, ◌≤◌, List, [], ◌∷◌, ◌++◌, length, arith, Option, Some, None}
use Rattle.isl_space.specs.Limits.{most_coordinates, most_leaves}
use Rattle.isl_space.specs.Form.{Form, leaf, pair, width_of, leaves_of, IsNarrow, IsWellFormed}
use Rattle.isl_space.specs.SpaceForm.{set_of, map_of, coordinates_of, IsWellFormedSpace}
use Rattle.isl_tree.specs.declared.tree.Tuple.{Tuple}
use Rattle.isl_tree.specs.declared.tree.Tuple.TheVariants.{Leaf, Pair}
use Rattle.isl_tree.specs.declared.tree.Tuple.TheBlock.{hidden-the_row-Tuple-0}
use Rattle.isl_tree.specs.declared.tree.Entry.{Entry}
use Rattle.isl_tree.specs.declared.tree.PieceTree.{PieceTree}
use Rattle.isl_tree.specs.Literal.{form_of_tuple, space_of_piece, space_of_tuples}

form-Pair : (a b : Tuple) → form_of_tuple (Pair a b) ≡ pair (form_of_tuple a) (form_of_tuple b)
unfolding hidden-the_row-Tuple-0 denote.Hole.Carrier.hidden
form-Pair a b = refl

form_is : (t a b : Tuple) → t ≡ Pair a b → form_of_tuple t ≡ pair (form_of_tuple a) (form_of_tuple b)
form_is t a b is = ap form_of_tuple is ∙ form-Pair a b

left_narrow : (f g : Form) → IsNarrow (pair f g) → IsNarrow f
left_narrow f g narrow =
    let wide = narrow.coordinates in
    let many = narrow.leaves in
    record { coordinates = omega (arith, wide); leaves = omega (arith, many) }

right_narrow : (f g : Form) → IsNarrow (pair f g) → IsNarrow g
right_narrow f g narrow =
    let wide = narrow.coordinates in
    let many = narrow.leaves in
    record { coordinates = omega (arith, wide); leaves = omega (arith, many) }

part_formed : (f g : Form) → IsWellFormed (pair f g) → IsWellFormed f × IsWellFormed g
part_formed f g formed = (
  record { named = formed.named.0; narrow = left_narrow f g formed.narrow },
  record { named = formed.named.1; narrow = right_narrow f g formed.narrow },
)

pub leaf_formed : (t : Tuple) (title : Option (List ℕ)) (es : List Entry) → t ≡ Leaf title es → IsWellFormed (form_of_tuple t)
    → IsWellFormed (leaf title (length es))
leaf_formed t title es is = subst (λ (x : Tuple). IsWellFormed (form_of_tuple x)) is

pub left_formed : (t a b u : Tuple) → t ≡ Pair a b → u ≡ a → IsWellFormed (form_of_tuple t) → IsWellFormed (form_of_tuple u)
left_formed t a b u is same formed =
    subst (λ (x : Tuple). IsWellFormed (form_of_tuple x)) (sym same)
    (part_formed (form_of_tuple a) (form_of_tuple b) (subst IsWellFormed (form_is t a b is) formed)).0

pub right_formed : (t a b u : Tuple) → t ≡ Pair a b → u ≡ b → IsWellFormed (form_of_tuple t) → IsWellFormed (form_of_tuple u)
right_formed t a b u is same formed =
    subst (λ (x : Tuple). IsWellFormed (form_of_tuple x)) (sym same)
    (part_formed (form_of_tuple a) (form_of_tuple b) (subst IsWellFormed (form_is t a b is) formed)).1

module _ (t a b u v : Tuple) (f g : Form) (is : t ≡ Pair a b) (left : u ≡ a) (right : v ≡ b) (first : f ≡ form_of_tuple u)
    (second : g ≡ form_of_tuple v) where
  pair_is : pair f g ≡ form_of_tuple t
  pair_is = rw (first, second, left, right) (sym (form_is t a b is))

  pub pair_formed : IsWellFormed (form_of_tuple t) → IsWellFormed (pair f g)
  pair_formed = subst IsWellFormed (sym pair_is)

  pub pair_made : (x : Form) → x ≡ pair f g → x ≡ form_of_tuple t
  pair_made x made = made ∙ pair_is

pub ruleset shapes = (leaf_formed, left_formed, right_formed, pair_formed, pair_made)

-- ---- the parts of a space
pub first_formed : (piece : PieceTree) → IsWellFormedSpace (space_of_piece piece) → IsWellFormed (form_of_tuple piece.first)
first_formed piece formed = by piece.second formed
  where
    by : (o : Option Tuple) → IsWellFormedSpace (space_of_tuples (form_of_tuple piece.first) o) → IsWellFormed (form_of_tuple piece.first)
    by None formed =
        record { named = formed.named; narrow = record { coordinates = formed.narrow.coordinates; leaves = formed.narrow.leaves } }
    by (Some t) formed =
        let f = form_of_tuple piece.first in
        let g = form_of_tuple t in
        let wide = formed.narrow.coordinates in
        let many = formed.narrow.leaves in
        record { named = formed.named.0; narrow = record { coordinates = omega (arith, wide); leaves = omega (arith, many) } }

pub second_formed : (piece : PieceTree) (t : Tuple) → piece.second ≡ Some t → IsWellFormedSpace (space_of_piece piece)
    → IsWellFormed (form_of_tuple t)
second_formed piece t is formed =
    let all = subst (λ (o : Option Tuple). IsWellFormedSpace (space_of_tuples (form_of_tuple piece.first) o)) is formed in
    let wide = all.narrow.coordinates in
    let many = all.narrow.leaves in
    record { named = all.named.1; narrow = record { coordinates = omega (arith, wide); leaves = omega (arith, many) } }

pub ruleset spaces = (first_formed, second_formed)
