-- The entries of pairs of tuples.
use Rattle.std.proofs.Common.{◌≡◌, ◌∙◌, sym, ap, ap₂, List, ◌++◌, Option, None, Some}
use Rattle.std.proofs.lemmas.List.{append-nil, append_assoc}
use Rattle.isl_tree.specs.declared.tree.Entry.{Entry}
use Rattle.isl_tree.specs.declared.tree.PieceTree.{PieceTree}
use Rattle.isl_tree.specs.declared.tree.Tuple.{Tuple, Pair}
use Rattle.isl_tree.specs.declared.tree.Tuple.TheBlock.{hidden-the_row-Tuple-0}
use Rattle.isl_tree.specs.Literal.{entries_of, second_entries, piece_entries}

pub entries_of-Pair : (a b : Tuple) → entries_of (Pair a b) ≡ entries_of a ++ entries_of b
unfolding hidden-the_row-Tuple-0 denote.Hole.Carrier.hidden
entries_of-Pair a b = ap₂ (λ xs ys. xs ++ ys) (append-nil (entries_of a)) (append-nil (entries_of b))

pub pushed_pair : (x a b : Tuple) (old middle new : List Entry) → x ≡ Pair a b → middle ≡ old ++ entries_of a
    → new ≡ middle ++ entries_of b → new ≡ old ++ entries_of x
pushed_pair x a b old middle new is first second =
    second ∙ ap (λ (l : List Entry). l ++ entries_of b) first ∙ append_assoc old (entries_of a) (entries_of b)
    ∙ ap (λ (l : List Entry). old ++ l) (sym (ap entries_of is ∙ entries_of-Pair a b))

pub ruleset tuples = (pushed_pair)

pub pushed_set : (piece : PieceTree) (new : List Entry) → piece.second ≡ None → new ≡ entries_of piece.first → new ≡ piece_entries piece
pushed_set piece new none first =
    first ∙ sym (append-nil (entries_of piece.first)) ∙ ap (λ (o : Option Tuple). entries_of piece.first ++ second_entries o) (sym none)

pub pushed_map : (piece : PieceTree) (t : Tuple) (middle new : List Entry) → piece.second ≡ Some t → middle ≡ entries_of piece.first
    → new ≡ middle ++ entries_of t → new ≡ piece_entries piece
pushed_map piece t middle new some first second =
    second ∙ ap (λ (l : List Entry). l ++ entries_of t) first
    ∙ ap (λ (o : Option Tuple). entries_of piece.first ++ second_entries o) (sym some)

pub ruleset pieces = (pushed_set, pushed_map)
