-- What saturates at a top: of a product, as if it were taken once, at the end.
use Rattle.std.proofs.Common.{◌≡◌, ◌∙◌, ◌⊎◌, inl, inr, ℕ, ◌+◌, ◌*◌, ◌<◌, ◌≤◌, min, arith, zero, suc, subst, sym, refl}
use Rattle.std.proofs.lemmas.Bool.{cases_lt}

le_times : (a b : ℕ) → 0 < b → a ≤ a * b
le_times a zero h = omega (arith, h)
le_times a (suc k) h = omega arith

times_ge : (a b : ℕ) → 0 < a → b ≤ a * b
times_ge zero b h = omega (arith, h)
times_ge (suc k) b h = omega arith

-- a factor may be taken at its top
pub saturated_right : (m a b : ℕ) → min (a * min b m) m ≡ min (a * b) m
saturated_right m zero b = omega arith
saturated_right m (suc k) b = elim (cases_lt m b) [
  | inl more ↦ let h = times_ge (suc k) b (omega arith) in let l = times_ge (suc k) (min b m) (omega arith) in omega (arith, h, l, more)
  | inr fits ↦ let e : min b m ≡ b = omega (arith, fits) in subst (λ x. min (suc k * x) m ≡ min (suc k * b) m) (sym e) refl
]

pub saturated_left : (m a b : ℕ) → min (min a m * b) m ≡ min (a * b) m
saturated_left m a zero = omega arith
saturated_left m a (suc k) = elim (cases_lt m a) [
  | inl more ↦ let h = le_times a (suc k) (omega arith) in let l = le_times (min a m) (suc k) (omega arith) in omega (arith, h, l, more)
  | inr fits ↦ let e : min a m ≡ a = omega (arith, fits) in subst (λ x. min (x * suc k) m ≡ min (a * suc k) m) (sym e) refl
]

pub saturated_product : (m a b : ℕ) → min (min a m * min b m) m ≡ min (a * b) m
saturated_product m a b = saturated_right m (min a m) b ∙ saturated_left m a b
