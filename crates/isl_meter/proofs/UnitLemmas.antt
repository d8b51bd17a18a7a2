-- How many units were used, one call after another. A bound over naturals is one by `pos`, which sums and products keep.
use Rattle.std.proofs.Common.{◌≡◌, refl, ap, arith, ℕ, zero, suc, ◌+◌, ◌*◌, ◌<◌, ◌≤◌, ℤ, pos, ◌+ℤ◌, ◌≤ℤ◌}
use Rattle.std.proofs.Math.Nat.{mul-le-mul_left}
use Rattle.isl_math.proofs.Ring.{linear}
use Rattle.isl_meter.specs.Gauge.{Gauge, IsChargedUpTo, IsCutUpTo}
use Rattle.isl_meter.specs.declared.Cut.{Cut}
use Rattle.isl_meter.specs.declared.Cut.TheVariants.{NoMemory}
use Rattle.isl_meter.proofs.CutLemmas.{IsCharged_refl, IsCharged_trans, IsCharged-unit, IsCutBy-after, IsCutBy-charged}

-- ---- one call after another
pub charged_same : (g h : Gauge) → h ≡ g → IsChargedUpTo (pos 0) g h
charged_same g h e = record { charged = IsCharged_refl g h e; most = let u = ap (λ (x : Gauge). x.units) e in omega (arith, linear) }

pub charged_weaker : (m n : ℤ) (g h : Gauge) → m ≤ℤ n → IsChargedUpTo m g h → IsChargedUpTo n g h
charged_weaker m n g h l p = record { charged = p.charged; most = let a = p.most in omega (arith, linear) }

pub charged_more : (m n : ℤ) (g h k : Gauge) → IsChargedUpTo m g h → IsChargedUpTo n h k → IsChargedUpTo (m +ℤ n) g k
charged_more m n g h k p q = record {
  charged = IsCharged_trans g h k p.charged q.charged;
  most = let a = p.most in let b = q.most in omega (arith, linear);
}

pub charged_unit : (n : ℤ) (g h k : Gauge) → IsChargedUpTo n g h → k ≡ record h { units = h.units + 1 } → IsChargedUpTo (n +ℤ pos 1) g k
charged_unit n g h k p e = record {
  charged = IsCharged_trans g h k p.charged (IsCharged-unit h k e);
  most = let u = ap (λ (x : Gauge). x.units) e in let m = p.most in omega (arith, linear);
}

pub cut_weaker : (m n : ℤ) (g h : Gauge) (cut : Cut) → m ≤ℤ n → IsCutUpTo m g h cut → IsCutUpTo n g h cut
cut_weaker m n g h cut l p = record { by = p.by; most = let a = p.most in omega (arith, linear) }

pub cut_after : (m n : ℤ) (g h k : Gauge) (cut : Cut) → IsChargedUpTo m g h → IsCutUpTo n h k cut → IsCutUpTo (m +ℤ n) g k cut
cut_after m n g h k cut p q = record {
  by = IsCutBy-after g h k cut p.charged q.by;
  most = let a = p.most in let b = q.most in omega (arith, linear);
}

-- ---- where at most z units were to be used: y of them, and then at most x
pub charged_within : (x y z : ℤ) (g h k : Gauge) → (y +ℤ x) ≤ℤ z → IsChargedUpTo y g h → IsChargedUpTo x h k → IsChargedUpTo z g k
charged_within x y z g h k l p q = charged_weaker (y +ℤ x) z g k l (charged_more y x g h k p q)

pub cut_within : (x y z : ℤ) (g h k : Gauge) (cut : Cut) → (y +ℤ x) ≤ℤ z → IsChargedUpTo y g h → IsCutUpTo x h k cut → IsCutUpTo z g k cut
cut_within x y z g h k cut l p q = cut_weaker (y +ℤ x) z g k cut l (cut_after y x g h k cut p q)

-- ---- want of memory
pub no_memory : (g h : Gauge) → h ≡ g → IsCutUpTo (pos 0) g h NoMemory
no_memory g h e = record {
  by = IsCutBy-charged g h (IsCharged_refl g h e);
  most = let u = ap (λ (x : Gauge). x.units) e in omega (arith, linear);
}

pub memory_after : (z : ℤ) (g h : Gauge) → pos 0 ≤ℤ z → h ≡ g → IsCutUpTo z g h NoMemory
memory_after z g h n e = cut_weaker (pos 0) z g h NoMemory n (no_memory g h e)

-- after units that were to be used
pub memory_late : (y z : ℤ) (g h k : Gauge) → y ≤ℤ z → IsChargedUpTo y g h → k ≡ h → IsCutUpTo z g k NoMemory
memory_late y z g h k l p e = cut_within (pos 0) y z g h k NoMemory (omega (arith, linear)) p (no_memory h k e)

-- ---- the limit stays
pub charged_bits : (z : ℤ) (g h : Gauge) → IsChargedUpTo z g h → h.bits ≡ g.bits
charged_bits z g h p = ap (λ (x : Gauge). x.bits) p.charged.same

-- ---- turns of a loop, each with at most u units
turns : (i l u : ℕ) → i < l → (i * u + u) ≤ (l * u)
turns i zero u h = absurd (omega arith)
turns zero (suc l) u h = omega arith
turns (suc i) (suc l) u h = let r = turns i l u (omega arith) in omega arith

pub charged_none : (u : ℕ) (g : Gauge) → IsChargedUpTo (pos (0 * u)) g g
charged_none u g = charged_weaker (pos 0) (pos (0 * u)) g g (omega (arith, linear)) (charged_same g g refl)

pub charged_turn : (i u : ℕ) (g h k : Gauge) → IsChargedUpTo (pos (i * u)) g h → IsChargedUpTo (pos u) h k
    → IsChargedUpTo (pos ((i + 1) * u)) g k
charged_turn i u g h k p q =
    let room = turns i (i + 1) u (omega arith) in
    charged_within (pos u) (pos (i * u)) (pos ((i + 1) * u)) g h k (omega (arith, linear)) p q

pub cut_turn : (i l u : ℕ) (g h k : Gauge) (cut : Cut) → i < l → IsChargedUpTo (pos (i * u)) g h → IsCutUpTo (pos u) h k cut
    → IsCutUpTo (pos (l * u)) g k cut
cut_turn i l u g h k cut n p q =
    let room = turns i l u n in
    cut_within (pos u) (pos (i * u)) (pos (l * u)) g h k cut (omega (arith, linear)) p q

-- cut after the turn's units
pub cut_late : (i l u : ℕ) (g h k m : Gauge) (cut : Cut) → i < l → IsChargedUpTo (pos (i * u)) g h → IsChargedUpTo (pos u) h k
    → IsCutUpTo (pos 0) k m cut → IsCutUpTo (pos (l * u)) g m cut
cut_late i l u g h k m cut n p q r =
    cut_turn i l u g h m cut n p (cut_within (pos 0) (pos u) (pos u) h k m cut (omega (arith, linear)) q r)

-- ---- shares of a product
times_sum : (m n u : ℕ) → m * u + n * u ≡ (m + n) * u
times_sum zero n u = omega arith
times_sum (suc m) n u = omega (arith, times_sum m n u)

pub charged_share : (m n u : ℕ) (g h k : Gauge) → IsChargedUpTo (pos (m * u)) g h → IsChargedUpTo (pos (n * u)) h k
    → IsChargedUpTo (pos ((m + n) * u)) g k
charged_share m n u g h k p q = rw (← times_sum m n u) (charged_more (pos (m * u)) (pos (n * u)) g h k p q)

pub cut_share : (m n l u : ℕ) (g h k : Gauge) (cut : Cut) → m + n ≤ l → IsChargedUpTo (pos (m * u)) g h
    → IsCutUpTo (pos (n * u)) h k cut → IsCutUpTo (pos (l * u)) g k cut
cut_share m n l u g h k cut room p q =
    let e = times_sum m n u in
    let t = mul-le-mul_left u room in
    cut_within (pos (n * u)) (pos (m * u)) (pos (l * u)) g h k cut (omega (arith, linear)) p q
