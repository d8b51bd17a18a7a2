-- A unary reads one level.
use Rattle.std.proofs.Common.{◌≡◌, ℕ, zero, suc, ◌-◌, ◌<◌, ap, arith}
use Rattle.isl_formula.specs.Term.{term}
use Rattle.isl_formula.specs.Formula.{unary, unary_level}

pub deeper : (n : ℕ) → 0 < n → unary n ≡ unary_level (term n) (unary (n - 1))
unfolding unary
deeper zero lt = absurd (omega arith)
deeper (suc n) lt = let e : n ≡ suc n - 1 = omega arith in ap (λ m. unary_level (term (suc n)) (unary m)) e
