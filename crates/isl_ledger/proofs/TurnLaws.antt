-- Loops of tame turns: a loop of n turns, each within so many units, is within n times as many.
use Rattle.std.proofs.Common.{◌≡◌, refl, ap, arith, ℕ, zero, suc, ◌+◌, ◌*◌, ◌<◌, ◌≤◌, Result, Ok, Err}
use Rattle.std.specs.Prelude.{IfOk}
use Rattle.isl_meter.specs.declared.Cut.{Cut}
use Rattle.isl_meter.specs.declared.Cut.TheVariants.{NoMemory}
use Rattle.isl_meter.specs.Gauge.{Gauge, IsCharged}
use Rattle.isl_meter.proofs.CutLemmas.{IsAnsweredWithin-ok, IsCharged_refl, IsCharged_trans}
use Rattle.isl_ledger.specs.Answered.{IsTame, IsTameSoFar}
use Rattle.isl_ledger.proofs.AnsweredLaws.{cut_later, memory_later}

-- ---- counts
one_turn_more : (i each : ℕ) → (i + 1) * each ≡ i * each + each
one_turn_more i each = let e : i + 1 ≡ suc i = omega arith in rw e (omega arith)

-- a turn among n
turn_inside : (i n each : ℕ) → i < n → i * each + each ≤ n * each
turn_inside i zero each l = absurd (omega arith)
turn_inside zero (suc n) each l = omega arith
turn_inside (suc i) (suc n) each l = let r = turn_inside i n each (omega arith) in omega (arith, r)

-- ---- before the first turn, and behind one
pub turns_none : (each : ℕ) (g : Gauge) (P : Type 0) → P → IsTameSoFar 0 each g g P
turns_none each g P p = record { charged = IsCharged_refl g g refl; units = omega arith; holds = p }

pub turns_more : {A : Type 0} (i each : ℕ) (g h k : Gauge) (P R : Type 0) (Q : A → Type 0) (value : A) → IsTameSoFar i each g h P
    → IsCharged h k → IsTame each h k Q (Ok value) → (P → Q value → R) → IsTameSoFar (i + 1) each g k R
turns_more i each g h k P R Q value before charged turn f = record {
  charged = IsCharged_trans g h k before.charged charged;
  units =
      let first = before.units in
      let own = turn.within.units in
      let count = one_turn_more i each in
      omega (arith, first, own, count);
  holds = f before.holds turn.answer;
}

-- ---- how a loop of n turns ends
-- a turn is cut
pub turns_cut : {A B : Type 0} (i n each : ℕ) (g h k : Gauge) (P : Type 0) (Q : A → Type 0) (R : B → Type 0) (cut : Cut) → i < n
    → IsTameSoFar i each g h P → IsTame {A = A} each h k Q (Err cut) → IsTame {A = B} (n * each) g k R (Err cut)
turns_cut i n each g h k P Q R cut low before turn = record {
  within = cut_later (i * each) each (n * each) g h k cut before.charged before.units (turn_inside i n each low) turn.within;
  numbers = turn.numbers;
  answer = tt;
}

-- memory ends within a turn
pub turns_memory : {B : Type 0} (i n each : ℕ) (g h k : Gauge) (P : Type 0) (R : B → Type 0) → i < n → IsTameSoFar i each g h P
    → k.units ≤ h.units + each → IsTame {A = B} (n * each) g k R (Err NoMemory)
turns_memory i n each g h k P R low before few = record {
  within = memory_later (n * each) (n * each) g k
      (let first = before.units in let inside = turn_inside i n each low in omega (arith, first, few, inside)) (omega arith);
  numbers = λ e. cc;
  answer = tt;
}

-- all turns are done
pub turns_all : {B : Type 0} (i n each : ℕ) (g h : Gauge) (P : Type 0) (R : B → Type 0) (value : B) → i ≡ n → IsTameSoFar i each g h P
    → (P → R value) → IsTame (n * each) g h R (Ok value)
turns_all i n each g h P R value end before f = record {
  within = IsAnsweredWithin-ok g h (n * each) value (let first = before.units in let same = ap (λ (m : ℕ). m * each) end in omega (arith, first, same));
  numbers = tt;
  answer = f before.holds;
}

pub ruleset turns = (turns_none, turns_more, turns_cut, turns_memory, turns_all)
