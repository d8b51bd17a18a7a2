-- inner: what is asked of terms and their parts, and what parts are made of.
use Rattle.std.specs.Prelude.{◌≡◌, ℕ, ℤ, pos, negsuc, ◌*ℤ◌, ◌<ℤ◌, Bool, true, if◌then◌else◌, is_some, List, [], All}
use Rattle.std.specs.List.{list_all}
use Rattle.isl_tree.specs.declared.tree.Factor.{Factor}
use Rattle.isl_tree.specs.declared.tree.Signed.{Signed, Signed'}
use Rattle.isl_tree.specs.declared.tree.Product.{Product', Held-Product-inner, None', Some'}
use Rattle.isl_tree.specs.Term.{Term, product_of}
use Rattle.isl_tree.specs.Known.{factor_names, signed_names, term_names}
use Rattle.isl_tree.specs.Divisors.{factor_divisors, signed_divisors, term_divisors}
use Rattle.isl_affine.specs.Scope.{Scope, column_of}

-- 1, or -1 for a part that is taken away
abbrev pub sign_of : Signed → ℤ
sign_of (Signed' negative product) = if negative then negsuc 0 else pos 1

abbrev pub numbers_of : Signed → List ℤ
numbers_of (Signed' negative (Product' numbers inner)) = numbers

abbrev pub inner_of : Signed → Held-Product-inner
inner_of (Signed' negative (Product' numbers inner)) = inner

abbrev pub moduli_of : Signed → List ℤ
moduli_of (Signed' negative (Product' numbers None')) = []
moduli_of (Signed' negative (Product' numbers (Some' factor moduli))) = moduli

-- what the number of a part's factor is multiplied by
abbrev pub amount_of : Signed → ℤ
amount_of part = sign_of part *ℤ product_of (numbers_of part)

abbrev pub is_in : Scope → List ℕ → Bool
is_in scope name = is_some (column_of scope name)

-- names of the scope, and positive divisors
pub record IsTermIn (scope : Scope) (term : Term) : Type 0 where
  pub known : list_all (is_in scope) (term_names term) ≡ true
  pub divisors : All (λ k. pos 0 <ℤ k) (term_divisors term)

pub record IsPartIn (scope : Scope) (part : Signed) : Type 0 where
  pub known : list_all (is_in scope) (signed_names part) ≡ true
  pub divisors : All (λ k. pos 0 <ℤ k) (signed_divisors part)

pub record IsFactorIn (scope : Scope) (factor : Factor) : Type 0 where
  pub known : list_all (is_in scope) (factor_names factor) ≡ true
  pub divisors : All (λ k. pos 0 <ℤ k) (factor_divisors factor)
