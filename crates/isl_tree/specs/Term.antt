-- public: the value of a term (isl manual, "Sets and relations", on affine expressions and integer divisions).
use Rattle.std.specs.Prelude.{ℤ, pos, neg_ℤ, ◌+ℤ◌, ◌*ℤ◌, List, [], ◌∷◌, if◌then◌else◌}
use Rattle.isl_math.specs.Divide.{floor_div, floor_mod}
use Rattle.isl_tree.specs.declared.tree.Factor.{Factor, Name, Inner', Floor', Ceil', Row_of-Signed, end_of-Signed, more_of-Signed}
use Rattle.isl_tree.specs.declared.tree.Signed.{Signed, Signed'}
use Rattle.isl_tree.specs.declared.tree.Product.{Product, Product', Held-Product-inner, None', Some'}
use Rattle.isl_tree.specs.Environment.{Environment, value_in}

-- a sum of products with their signs
abbrev pub Term : Type 0
Term = List Signed

-- the product of numbers
abbrev pub product_of : List ℤ → ℤ
product_of [] = pos 1
product_of (n ∷ ns) = n *ℤ product_of ns

-- the remainders by the divisors, one after the other
abbrev pub remainder_of : ℤ → List ℤ → ℤ
remainder_of z [] = z
remainder_of z (k ∷ ks) = remainder_of (floor_mod z k) ks

abbrev mutual
  pub factor_value : Factor → Environment → ℤ
  factor_value (Name name) env = value_in env name
  factor_value (Inner' s row) env = sum_value row env
  factor_value (Floor' s row k) env = floor_div (sum_value row env) k
  factor_value (Ceil' s row k) env = neg_ℤ (floor_div (neg_ℤ (sum_value row env)) k)

  pub product_value : Product → Environment → ℤ
  product_value (Product' numbers inner) env = product_of numbers *ℤ inner_value inner env

  pub inner_value : Held-Product-inner → Environment → ℤ
  inner_value None' env = pos 1
  inner_value (Some' factor moduli) env = remainder_of (factor_value factor env) moduli

  pub signed_value : Signed → Environment → ℤ
  signed_value (Signed' negative product) env = if negative then neg_ℤ (product_value product env) else product_value product env

  pub sum_value : {m : _} → Row_of-Signed m → Environment → ℤ
  sum_value end_of-Signed env = pos 0
  sum_value (more_of-Signed part rest) env = signed_value part env +ℤ sum_value rest env

-- the value of a term: the sum of its parts
abbrev pub term_value : Term → Environment → ℤ
term_value [] env = pos 0
term_value (part ∷ parts) env = signed_value part env +ℤ term_value parts env
