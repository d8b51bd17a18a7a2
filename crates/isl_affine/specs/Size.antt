-- inner: how much stands in a term: more than in each of its parts.
use Rattle.std.specs.Prelude.{ℕ, ◌+◌, [], ◌∷◌}
use Rattle.isl_tree.specs.declared.tree.Factor.{Factor, Name, Inner', Floor', Ceil', Row_of-Signed, end_of-Signed, more_of-Signed}
use Rattle.isl_tree.specs.declared.tree.Signed.{Signed, Signed'}
use Rattle.isl_tree.specs.declared.tree.Product.{Product, Product', Held-Product-inner, None', Some'}
use Rattle.isl_tree.specs.Term.{Term}

abbrev mutual
  pub factor_size : Factor → ℕ
  factor_size (Name name) = 1
  factor_size (Inner' s row) = 1 + sum_size row
  factor_size (Floor' s row k) = 1 + sum_size row
  factor_size (Ceil' s row k) = 1 + sum_size row

  pub product_size : Product → ℕ
  product_size (Product' numbers inner) = inner_size inner

  pub inner_size : Held-Product-inner → ℕ
  inner_size None' = 1
  inner_size (Some' factor moduli) = 1 + factor_size factor

  pub part_size : Signed → ℕ
  part_size (Signed' negative product) = product_size product

  pub sum_size : {m : _} → Row_of-Signed m → ℕ
  sum_size end_of-Signed = 1
  sum_size (more_of-Signed part rest) = 1 + (part_size part + sum_size rest)

abbrev pub term_size : Term → ℕ
term_size [] = 1
term_size (part ∷ parts) = 1 + (part_size part + term_size parts)
