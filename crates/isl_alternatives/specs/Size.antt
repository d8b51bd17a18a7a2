-- inner: how large a formula is, for calls that go down into it.
use Rattle.std.specs.Prelude.{ℕ, ◌+◌, List, [], ◌∷◌}
use Rattle.isl_tree.specs.declared.tree.Formula.{Formula, Implies', Or', And', Not', True, False, Exists', Chain, Row_of-Formula}
use Rattle.isl_tree.specs.declared.tree.Formula.{end_of-Formula, more_of-Formula}

abbrev mutual
  pub size_of : Formula → ℕ
  size_of (Implies' s row) = 1 + row_size row
  size_of (Or' s row) = 1 + row_size row
  size_of (And' s row) = 1 + row_size row
  size_of (Not' s row) = 1 + row_size row
  size_of True = 1
  size_of False = 1
  size_of (Exists' binders s row) = 1 + row_size row
  size_of (Chain first links) = 1

  pub row_size : {m : _} → Row_of-Formula m → ℕ
  row_size end_of-Formula = 0
  row_size (more_of-Formula f rest) = 2 + size_of f + row_size rest

-- a list of formulas is larger than a call for one of them
abbrev pub list_size : List Formula → ℕ
list_size [] = 0
list_size (f ∷ fs) = 2 + size_of f + list_size fs
