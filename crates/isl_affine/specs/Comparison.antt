-- public: comparisons that one row tells.
use Rattle.std.specs.Prelude.{ℤ, pos, Bool, true, false, ◌&&◌, not, is_some, [], ◌∷◌, Option, Some, None, if◌then◌else◌}
use Rattle.std.specs.Ordering.{int_eq}
use Rattle.isl_tree.specs.declared.tree.Factor.{Factor}
use Rattle.isl_tree.specs.declared.tree.Signed.{Signed'}
use Rattle.isl_tree.specs.declared.tree.Product.{Product', None', Some'}
use Rattle.isl_tree.specs.declared.tree.Compare.{Compare}
use Rattle.isl_tree.specs.declared.tree.Compare.TheVariants.{Equal, Differs}
use Rattle.isl_tree.specs.Term.{Term}

-- the factor and the divisor of a term that is one remainder
abbrev pub lone_remainder : Term → Option (Factor × ℤ)
lone_remainder (Signed' false (Product' [] (Some' factor (k ∷ []))) ∷ []) = Some (factor, k)
lone_remainder _ = None

-- the term is the number 0
abbrev pub is_zero : Term → Bool
is_zero (Signed' negative (Product' (n ∷ []) None') ∷ []) = int_eq n (pos 0)
is_zero _ = false

-- a sign that a congruence tells: `=` or `!=`
abbrev pub is_equation : Compare → Bool
is_equation Equal = true
is_equation Differs = true
is_equation _ = false

-- the factor and the divisor of a remainder that is compared with 0 by `=` or `!=`
abbrev pub zero_remainder : Compare → Term → Term → Option (Factor × ℤ)
zero_remainder compare left right = if is_equation compare && is_zero right then lone_remainder left else None

abbrev pub differs : Compare → Bool
differs Differs = true
differs _ = false

-- `!=` of what is no remainder compared with 0: no single row tells it
abbrev pub splits : Compare → Term → Term → Bool
splits compare left right = differs compare && not (is_some (zero_remainder compare left right))
