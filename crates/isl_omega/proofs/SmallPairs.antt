-- How large the numbers of pairs and of last values become.
use Rattle.std.proofs.Common.{◌≡◌, arith, lit≤, lit<, ℕ, zero, suc, ◌*◌, ◌^◌, ◌<◌, ◌≤◌, ℤ, pos, negsuc, neg_ℤ, ◌+ℤ◌, ◌-ℤ◌, ◌*ℤ◌, ◌≤ℤ◌, ◌<ℤ◌, List, unsigned_abs}
use Rattle.std.specs.List.{All}
use Rattle.std.proofs.lemmas.List.Elements.{All-weaker}
use Rattle.isl_math.specs.Divide.{floor_div}
use Rattle.isl_math.proofs.Ring.{linear}
use Rattle.isl_meter.specs.Gauge.{Gauge}
use Rattle.isl_piece.specs.declared.row.Row.{Row}
use Rattle.isl_piece.specs.Row.{IsRowUpTo, coef_at}
use Rattle.isl_omega.specs.Shadow.{splinters, ceiling, IsShadowOf}
use Rattle.isl_omega.specs.Sides.{IsLower}
use Rattle.isl_math.proofs.MagnitudeLaws.{up_to-neg, up_to-product, up_to-floor_div}
use Rattle.isl_omega.proofs.SmallLemmas.{at_most, coef_up_to}

-- ---- pairs
pub real_up_to : (lower upper : Row) (col : ℕ) (d m n : ℤ) → pos 0 <ℤ d → IsRowUpTo (2 ^ 62) lower → IsRowUpTo (2 ^ 62) upper → m ≡ floor_div (coef_at lower col) d → n ≡ floor_div (neg_ℤ (coef_at upper col)) d
    → (unsigned_abs m ≤ 2 ^ 62) × (unsigned_abs n ≤ 2 ^ 62)
real_up_to lower upper col d m n p l u e f = (
  rw e (up_to-floor_div (2 ^ 62) (coef_at lower col) d p (coef_up_to (2 ^ 62) lower col l)),
  rw f (up_to-floor_div (2 ^ 62) (neg_ℤ (coef_at upper col)) d p (up_to-neg (2 ^ 62) (coef_at upper col) (coef_up_to (2 ^ 62) upper col u))),
)

-- one less than a number
less_up_to : (b : ℕ) (a : ℤ) → unsigned_abs a ≤ b → unsigned_abs (a -ℤ pos 1) ≤ suc b
less_up_to b a h = omega (arith, linear)

pub slack_up_to : (a b d s : ℤ) → pos 0 <ℤ d → unsigned_abs a ≤ 2 ^ 62 → unsigned_abs b ≤ 2 ^ 62 → s ≡ ceiling ((a -ℤ pos 1) *ℤ (b -ℤ pos 1)) d → unsigned_abs s ≤ 2 ^ 125
slack_up_to a b d s p h k e =
    let w : ℕ = suc (2 ^ 62) * suc (2 ^ 62) in
    let z : ℤ = (a -ℤ pos 1) *ℤ (b -ℤ pos 1) in
    let q = up_to-product (suc (2 ^ 62)) (suc (2 ^ 62)) (a -ℤ pos 1) (b -ℤ pos 1) (less_up_to (2 ^ 62) a h) (less_up_to (2 ^ 62) b k) in
    let r = up_to-neg w _ (up_to-floor_div w (neg_ℤ z) d p (up_to-neg w z q)) in
    rw e (at_most _ w (2 ^ 125) r (lit≤ tt))

-- ---- the last values
pub splinters_few : (a m : ℤ) → pos 0 <ℤ a → pos 0 <ℤ m → splinters a m ≤ℤ a
splinters_few (pos zero) m p q = absurd p.lt
splinters_few (pos (suc a)) (pos zero) p q = absurd q.lt
splinters_few (pos (suc a)) (pos (suc m)) p q = omega (arith, linear)
splinters_few (pos (suc a)) (negsuc m) p q = absurd q.lt
splinters_few (negsuc a) m p q = absurd p.lt

pub factors_up_to : (b col : ℕ) (uppers : List Row) → All (IsRowUpTo b) uppers → All (λ u. neg_ℤ (coef_at u col) ≤ℤ pos b) uppers
factors_up_to b col uppers h = All-weaker (IsRowUpTo b) (λ u. neg_ℤ (coef_at u col) ≤ℤ pos b) (λ u p. by (coef_at u col) (coef_up_to b u col p)) uppers h
  where
    by : (z : ℤ) → unsigned_abs z ≤ b → neg_ℤ z ≤ℤ pos b
    by z h = omega (arith, linear)

pub shadow_last : (g : Gauge) (columns col : ℕ) (lower : Row) (uppers old new : List Row) (last : ℤ) → IsShadowOf g columns col lower uppers old new last → IsLower g columns col lower → IsRowUpTo (2 ^ 62) lower → All (IsRowUpTo (2 ^ 62)) uppers
    → unsigned_abs last ≤ 2 ^ 62
shadow_last g columns col lower uppers old new last s l h k =
    let positive : pos 0 <ℤ pos (2 ^ 62) = record { lt = tt } in
    by (coef_at lower col) (splinters (coef_at lower col) (pos (2 ^ 62))) (2 ^ 62) last (splinters_few (coef_at lower col) (pos (2 ^ 62)) l.factor positive) (coef_up_to (2 ^ 62) lower col h) (lit< tt) s.not_below (s.few (pos (2 ^ 62)) positive (factors_up_to (2 ^ 62) col uppers k))
  where
    by : (a s : ℤ) (b : ℕ) (last : ℤ) → s ≤ℤ a → unsigned_abs a ≤ b → 0 < b → negsuc 0 ≤ℤ last → (last +ℤ pos 1) ≤ℤ s → unsigned_abs last ≤ b
    by a s b last le h some low high = omega (arith, linear)
