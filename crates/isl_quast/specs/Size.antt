-- inner: how much stands in a tree, for calls that go down into it.
use Rattle.std.specs.Prelude.{ℕ, ◌+◌}
use Rattle.isl_quast.specs.declared.tree.Quast.{Quast, Missing, Leaf, If', Row_of-Quast, end_of-Quast, more_of-Quast}

abbrev mutual
  pub quast_size : Quast → ℕ
  quast_size Missing = 1
  quast_size (Leaf exprs) = 1
  quast_size (If' test s up t down) = 1 + (size_in up + size_in down)

  pub size_in : {m : _} → Row_of-Quast m → ℕ
  size_in end_of-Quast = 0
  size_in (more_of-Quast tree rest) = quast_size tree
