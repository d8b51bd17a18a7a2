-- Exact numbers of units, one call after another.
use Rattle.std.proofs.Common.{◌≡◌, ◌≢◌, ◌∙◌, refl, ap, arith, ℕ, zero, suc, ◌+◌, ◌*◌, pos, Result, Ok, Err}
use Rattle.isl_math.proofs.Ring.{linear}
use Rattle.isl_meter.specs.declared.Cut.{Cut}
use Rattle.isl_meter.specs.declared.Cut.TheVariants.{Overflow, Budget, NoMemory}
use Rattle.isl_meter.specs.Gauge.{Gauge, IsChargedUpTo, IsCutUpTo, IsDone, IsAnsweredWithin}
use Rattle.isl_meter.proofs.CutLemmas.{IsAnsweredWithin-ok}
use Rattle.isl_omega.specs.Units.{paid, IsDoneFor, IsAnsweredFor}

pub charged_none : (n : ℕ) (g h : Gauge) → n ≡ 0 → h ≡ g → h ≡ paid n g
charged_none n g h z e = e ∙ by g.units n z
  where
    by : (u n : ℕ) → n ≡ 0 → record g { units = u } ≡ record g { units = u + n }
    by u n z = ap (λ (v : ℕ). record g { units = v }) (omega arith)

pub charged_up_to : (n : ℕ) (g h : Gauge) → h ≡ paid n g → IsChargedUpTo (pos n) g h
charged_up_to n g h e = rw e (record { charged = record { same = refl; units = omega arith }; most = omega (arith, linear) })

pub charged_sum : (m n : ℕ) (g h k : Gauge) → h ≡ paid m g → k ≡ paid n h → k ≡ paid (m + n) g
charged_sum m n g h k p q = q ∙ ap (λ (x : Gauge). paid n x) p ∙ ap (λ (v : ℕ). record g { units = v }) (by g.units m n)
  where
    by : (u m n : ℕ) → u + m + n ≡ u + (m + n)
    by u m n = omega arith

-- turns of a loop, each with n units
pub no_turn : (n : ℕ) (g : Gauge) → g ≡ paid (0 * n) g
no_turn n g = charged_none (0 * n) g g (omega arith) refl

pub charged_turns : (i n : ℕ) (g h k : Gauge) → h ≡ paid (i * n) g → k ≡ paid n h → k ≡ paid ((i + 1) * n) g
charged_turns i n g h k p q = charged_sum (i * n) n g h k p q ∙ ap (λ (m : ℕ). paid m g) (next i n)
  where
    next : (i n : ℕ) → i * n + n ≡ (i + 1) * n
    next zero n = omega arith
    next (suc i) n = let r = next i n in omega arith

pub charged_share_for : (m n u : ℕ) (g h k : Gauge) → h ≡ paid (m * u) g → k ≡ paid (n * u) h → k ≡ paid ((m + n) * u) g
charged_share_for m n u g h k p q = charged_sum (m * u) (n * u) g h k p q ∙ ap (λ (z : ℕ). paid z g) (by m n u)
  where
    by : (m n u : ℕ) → m * u + n * u ≡ (m + n) * u
    by zero n u = omega arith
    by (suc m) n u = let r = by m n u in omega arith

-- ---- answers within so many units
pub answered_ok : {A : Type 0} (n : ℕ) (g k : Gauge) (value : A) → k ≡ paid n g → IsAnsweredWithin n g k (Ok value)
answered_ok n g k value e = IsAnsweredWithin-ok g k n value (let u = ap (λ (x : Gauge). x.units) e in omega arith)

-- ---- one unit more than work may use
-- where it is left, work does not end for want of units
pub answered_cut : {A : Type 0} (n : ℕ) (g k : Gauge) (cut : Cut) → IsCutUpTo (pos n) g k cut → cut ≢ Overflow
    → IsAnsweredWithin {A = A} (n + 1) g k (Err cut)
answered_cut n g k Overflow p few = absurd (few refl)
answered_cut n g k Budget p few = record {
  units = let m = p.most in omega (arith, linear);
  answered = λ left. absurd (let m = p.most in let same = p.by.kept.budget in let spent = p.by.cause.0 in omega (arith, linear));
}
answered_cut n g k NoMemory p few = record { units = let m = p.most in omega (arith, linear); answered = λ left. refl }

pub answered_done : {A : Type 0} (g k : Gauge) (P : A → Type 0) (result : Result A Cut) → IsDone g k P result → IsAnsweredFor 1 g k result
answered_done g k P (Ok value) d = λ few. IsAnsweredWithin-ok g k 1 value (let u = ap (λ (x : Gauge). x.units) d.1 in omega arith)
answered_done g k P (Err cut) d = λ few. answered_cut 0 g k cut d few

pub answered_paid : {A : Type 0} (n : ℕ) (g k : Gauge) (P : A → Type 0) (result : Result A Cut) → IsDoneFor n g k P result
    → IsAnsweredFor (n + 1) g k result
answered_paid n g k P (Ok value) d = λ few. IsAnsweredWithin-ok g k (n + 1) value (let u = ap (λ (x : Gauge). x.units) d.1 in omega arith)
answered_paid n g k P (Err cut) d = λ few. answered_cut n g k cut d few
