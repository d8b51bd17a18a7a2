-- Whether a number stands at one place at most: it is looked for at one place after another.
use Rattle.std.proofs.Common.{◌≡◌, ◌≢◌, ◌<◌, ◌≤◌, sym, arith, Bool, true, false, ℕ, ℤ, pos, List}
use Rattle.std.proofs.Common.{length, get_or}
use Rattle.std.proofs.lemmas.Bool.{true≢false}
use Rattle.isl_ledger.specs.Difference.{AtMostOnce}

-- among the first so many
pub record IsSought (z : ℤ) (cs : List ℤ) (places : ℕ) (seen : Bool) : Type 0 where
  pub found : seen ≡ true → (j : ℕ) × (j < places) × (get_or cs j (pos 0) ≡ z)
  pub none : seen ≡ false → (k : ℕ) → k < places → get_or cs k (pos 0) ≢ z
  pub once : (a b : ℕ) → a < places → b < places → get_or cs a (pos 0) ≡ z → get_or cs b (pos 0) ≡ z → a ≡ b

pub none_sought : (z : ℤ) (cs : List ℤ) → IsSought z cs 0 false
none_sought z cs = record {
  found = λ e. absurd (true≢false (sym e));
  none = λ e k low. absurd (omega (arith, low));
  once = λ a b low. absurd (omega (arith, low));
}

pub all_sought : (z : ℤ) (cs : List ℤ) (places : ℕ) (seen : Bool) → length cs ≤ places → IsSought z cs places seen → AtMostOnce z cs
all_sought z cs places seen end s a b l m e f = s.once a b (omega (arith, l, end)) (omega (arith, m, end)) e f
