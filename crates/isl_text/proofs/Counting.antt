-- Sums that stand at a cap.
use Rattle.std.proofs.Common.{◌≡◌, ℕ, ◌+◌, arith}
use Rattle.isl_text.specs.Bound.{capped}

-- one more item of a list whose items are counted
pub count_more : (whole total x rest next : ℕ) → whole ≡ capped (total + (x + rest)) → next ≡ capped (total + capped x)
    → whole ≡ capped (next + rest)
count_more whole total x rest next so_far more = omega arith

pub capped_sum : (a b m n r : ℕ) → m ≡ capped a → n ≡ capped b → r ≡ capped (m + n) → r ≡ capped (a + b)
capped_sum a b m n r first second sum = omega arith

pub capped_right : (a b n r : ℕ) → n ≡ capped b → r ≡ capped (a + n) → r ≡ capped (a + b)
capped_right a b n r second sum = omega arith

pub ruleset counts = (count_more)

pub ruleset sums = (capped_sum, capped_right)
