-- Calls that are answered within so many units: a unit, exact arithmetic, one step after another, and the turns of a loop.
use Rattle.std.proofs.Common.{◌≡◌, refl, ap, arith, ℕ, zero, suc, ◌+◌, ◌*◌, ◌<◌, ◌≤◌, ℤ, pos, List, length, get_or, take, Result, Ok, Err}
use Rattle.std.specs.Prelude.{MatchResult, IfOk}
use Rattle.std.specs.List.{sum_by}
use Rattle.std.proofs.lemmas.List.Sums.{sum_by_more_le}
use Rattle.isl_math.proofs.Ring.{linear}
use Rattle.isl_meter.specs.declared.Cut.{Cut}
use Rattle.isl_meter.specs.declared.Cut.TheVariants.{Overflow, Budget, NoMemory}
use Rattle.isl_meter.specs.Gauge.{Gauge, IsWithin, IsMeasured, IsMetered, IsCharged, IsChargedUpTo, IsAnsweredWithin, spent_out}
use Rattle.isl_meter.proofs.CutLemmas.{IsAnsweredWithin-ok}
use Rattle.isl_ledger.specs.Answered.{with_cut, IsTame}

-- ---- the calls of a meter
-- a unit
pub unit_answered : {A E : Type 0} (g h : Gauge) (result : Result A E)
    → MatchResult result (λ _. (g.units < g.budget) × (h ≡ record g { units = g.units + 1 }))
    (λ _. (g.units ≡ g.budget) × (h ≡ spent_out g))
    → IsAnsweredWithin 1 g h (with_cut Budget result)
unit_answered g h (Ok value) m = record { units = let u = ap (λ (x : Gauge). x.units) m.1 in omega arith; answered = λ left. tt }
unit_answered g h (Err e) m = record {
  units = let u = ap (λ (x : Gauge). x.units) m.1 in omega arith;
  answered = λ left. absurd (let full = m.0 in omega arith);
}

-- a number within the limit
pub number_answered : {E : Type 0} (g h : Gauge) (z : ℤ) (result : Result ℤ E) → IsWithin g z → IsMeasured g h z result
    → IsAnsweredWithin 0 g h (with_cut Overflow result)
number_answered g h z (Ok value) within m =
    IsAnsweredWithin-ok g h 0 value (let u = ap (λ (x : Gauge). x.units) m.2 in omega arith)
number_answered g h z (Err e) within m = absurd (m.0 within)

-- ---- one step after another
pub answered_more : {A : Type 0} (few most : ℕ) (g h : Gauge) (result : Result A Cut) → few ≤ most → IsAnsweredWithin few g h result
    → IsAnsweredWithin most g h result
answered_more few most g h result room p = record {
  units = let a = p.units in omega arith;
  answered = λ left. p.answered (omega arith);
}

-- after units that were used
pub answered_behind : {A : Type 0} (used next most : ℕ) (g h k : Gauge) (result : Result A Cut) → used + next ≤ most
    → IsChargedUpTo (pos used) g h → IsAnsweredWithin next h k result → IsAnsweredWithin most g k result
answered_behind used next most g h k result room p q =
    let same : h.budget ≡ g.budget = ap (λ (x : Gauge). x.budget) p.charged.same in
    let few : h.units ≤ g.units + used = let a = p.most in omega (arith, linear) in
    record {
      units = let b = q.units in omega arith;
      answered = λ left. q.answered (omega arith);
    }

-- what an answer within so many units used
pub answered_charged : {A : Type 0} (most : ℕ) (g h : Gauge) (value : A) → IsMetered g h (Ok value) → IsAnsweredWithin most g h (Ok value)
    → IsChargedUpTo (pos most) g h
answered_charged most g h value charged p = record { charged = charged; most = let a = p.units in omega (arith, linear) }

-- memory ends after units that were used
pub answered_memory : {A : Type 0} (used most : ℕ) (g h k : Gauge) → used ≤ most → IsChargedUpTo (pos used) g h → k ≡ h
    → IsAnsweredWithin {A = A} most g k (Err NoMemory)
answered_memory used most g h k room p e = record {
  units = let a = p.most in let u = ap (λ (x : Gauge). x.units) e in omega (arith, linear);
  answered = λ left. refl;
}

-- ---- the turns of a loop
-- a turn within u units, after i turns with as many each, of n
pub answered_turn : {A : Type 0} (i n u : ℕ) (g h k : Gauge) (result : Result A Cut) → i < n → IsChargedUpTo (pos (i * u)) g h
    → IsAnsweredWithin u h k result → IsAnsweredWithin (n * u) g k result
answered_turn i n u g h k result inside p q = answered_behind (i * u) u (n * u) g h k result (turns i n inside) p q
  where
    turns : (i n : ℕ) → i < n → (i * u + u) ≤ (n * u)
    turns i zero l = absurd (omega arith)
    turns zero (suc n) l = omega arith
    turns (suc i) (suc n) l = let r = turns i n (omega arith) in omega arith

-- a turn at the next of some elements, each with its own number of units
pub answered_next : {A X : Type 0} (work : X → ℕ) (xs : List X) (i : ℕ) (d : X) (g h k : Gauge) (result : Result A Cut) → i < length xs
    → IsChargedUpTo (pos (sum_by work (take i xs))) g h → IsAnsweredWithin (work (get_or xs i d)) h k result
    → IsAnsweredWithin (sum_by work xs) g k result
answered_next work xs i d g h k result inside p q =
    answered_behind (sum_by work (take i xs)) (work (get_or xs i d)) (sum_by work xs) g h k result (sum_by_more_le work xs i d inside) p q

-- ---- tame calls
pub tame_more : {A : Type 0} (few most : ℕ) (g h : Gauge) (P Q : A → Type 0) (result : Result A Cut) → few ≤ most
    → ((value : A) → P value → Q value) → IsTame few g h P result → IsTame most g h Q result
tame_more {A = A} few most g h P Q result room f p = record {
  within = answered_more few most g h result room p.within;
  numbers = p.numbers;
  answer = by result p.answer;
}
  where
    by : (result : Result A Cut) → IfOk result P → IfOk result Q
    by (Ok value) a = f value a
    by (Err cut) a = tt

-- after units that were used
pub tame_behind : {A : Type 0} (used next most : ℕ) (g h k : Gauge) (P : A → Type 0) (result : Result A Cut) → used + next ≤ most
    → IsChargedUpTo (pos used) g h → IsTame next h k P result → IsTame most g k P result
tame_behind used next most g h k P result room p q = record {
  within = answered_behind used next most g h k result room p q.within;
  numbers = q.numbers;
  answer = q.answer;
}

-- ---- the exits of a function
-- its first unit is refused
pub unit_refused : {A : Type 0} (most : ℕ) (g h : Gauge) → g.units ≡ g.budget → h ≡ spent_out g → 0 < most
    → IsAnsweredWithin {A = A} most g h (Err Budget)
unit_refused most g h full e some = record {
  units = let u = ap (λ (x : Gauge). x.units) e in omega arith;
  answered = λ left. absurd (omega arith);
}

-- a unit is refused after others that were used
pub unit_refused_later : {A : Type 0} (used most : ℕ) (g h k : Gauge) → IsCharged g h → h.units ≤ g.units + used → used < most
    → h.units ≡ h.budget → k ≡ spent_out h → IsAnsweredWithin {A = A} most g k (Err Budget)
unit_refused_later used most g h k p few room full e =
    let same : h.budget ≡ g.budget = ap (λ (x : Gauge). x.budget) p.same in
    record {
      units = let u = ap (λ (x : Gauge). x.units) e in omega arith;
      answered = λ left. absurd (omega arith);
    }

-- a call is cut after others
pub cut_later : {A B : Type 0} (used next most : ℕ) (g h k : Gauge) (cut : Cut) → IsCharged g h → h.units ≤ g.units + used
    → used + next ≤ most → IsAnsweredWithin {A = A} next h k (Err cut) → IsAnsweredWithin {A = B} most g k (Err cut)
cut_later used next most g h k cut p few room q =
    let same : h.budget ≡ g.budget = ap (λ (x : Gauge). x.budget) p.same in
    record {
      units = let b = q.units in omega arith;
      answered = λ left. q.answered (omega arith);
    }

-- memory ends after others
pub memory_later : {A : Type 0} (used most : ℕ) (g h : Gauge) → h.units ≤ g.units + used → used ≤ most
    → IsAnsweredWithin {A = A} most g h (Err NoMemory)
memory_later used most g h few room = record { units = omega arith; answered = λ left. refl }

pub units_used : {A : Type 0} (most : ℕ) (g h : Gauge) (result : Result A Cut) → IsAnsweredWithin most g h result → h.units ≤ g.units + most
units_used most g h result p = p.units

-- for a function that is answered within so many units
pub ruleset answers = (IsAnsweredWithin-ok, unit_refused, unit_refused_later, cut_later, memory_later, units_used)
