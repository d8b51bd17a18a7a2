-- An operand reads one level.
use Rattle.std.proofs.Common.{◌≡◌, ℕ, zero, suc, ◌-◌, ◌<◌, ap, arith}
use Rattle.isl_text.specs.Literal.{literal}
use Rattle.isl_stmt.specs.Expression.{pre, pre_level}

pub deeper : (n : ℕ) → 0 < n → pre n ≡ pre_level (literal n) (pre (n - 1))
unfolding pre
deeper zero lt = absurd (omega arith)
deeper (suc n) lt = let e : n ≡ suc n - 1 = omega arith in ap (λ m. pre_level (literal (suc n)) (pre m)) e
