-- What stands in a tuple is smaller.
use Rattle.std.proofs.Common.{◌≡◌, ◌∙◌, ◌<◌, ◌+◌, ℕ, ap, arith}
use Rattle.isl_tree.specs.declared.tree.Tuple.{Tuple, Leaf, Pair', Row_of-Tuple, end_of-Tuple, more_of-Tuple}
use Rattle.isl_tree.specs.declared.tree.Tuple.TheVariants.{Pair}
use Rattle.isl_tree.specs.declared.tree.Tuple.TheBlock.{hidden-the_row-Tuple-0}

abbrev mutual
  pub size_of : Tuple → ℕ
  size_of (Leaf name entries) = 1
  size_of (Pair' s left t right) = 1 + (row_size left + row_size right)

  pub row_size : {m : _} → Row_of-Tuple m → ℕ
  row_size end_of-Tuple = 0
  row_size (more_of-Tuple tuple rest) = size_of tuple + row_size rest

size_of-Pair : (a b : Tuple) → size_of (Pair a b) ≡ 1 + (size_of a + size_of b)
unfolding hidden-the_row-Tuple-0 denote.Hole.Carrier.hidden
size_of-Pair a b = omega arith

pub left_smaller : (t a b u : Tuple) → t ≡ Pair a b → u ≡ a → size_of u < size_of t
left_smaller t a b u is same =
    let whole : size_of t ≡ 1 + (size_of a + size_of b) = ap size_of is ∙ size_of-Pair a b in
    let own : size_of u ≡ size_of a = ap size_of same in
    omega (arith, whole, own)

pub right_smaller : (t a b v : Tuple) → t ≡ Pair a b → v ≡ b → size_of v < size_of t
right_smaller t a b v is same =
    let whole : size_of t ≡ 1 + (size_of a + size_of b) = ap size_of is ∙ size_of-Pair a b in
    let own : size_of v ≡ size_of b = ap size_of same in
    omega (arith, whole, own)
