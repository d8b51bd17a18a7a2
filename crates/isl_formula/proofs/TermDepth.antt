-- A product reads one level.
use Rattle.std.proofs.Common.{◌≡◌, ℕ, zero, suc, ◌-◌, ◌<◌, ap, arith}
use Rattle.isl_formula.specs.Term.{product, product_level}

pub deeper : (n : ℕ) → 0 < n → product n ≡ product_level (product (n - 1))
unfolding product
deeper zero lt = absurd (omega arith)
deeper (suc n) lt = let e : n ≡ suc n - 1 = omega arith in ap (λ m. product_level (product m)) e
