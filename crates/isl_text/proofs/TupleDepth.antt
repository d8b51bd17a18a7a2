-- A tuple reads one level.
use Rattle.std.proofs.Common.{◌≡◌, ℕ, zero, suc, ◌-◌, ◌<◌, ap, arith}
use Rattle.isl_formula.specs.Term.{term}
use Rattle.isl_text.specs.Tuple.{tuple, tuple_level}

pub deeper : (n : ℕ) → 0 < n → tuple n ≡ tuple_level (term n) (tuple (n - 1))
unfolding tuple
deeper zero lt = absurd (omega arith)
deeper (suc n) lt = let e : n ≡ suc n - 1 = omega arith in ap (λ m. tuple_level (term (suc n)) (tuple m)) e
