-- Columns that are taken out with units and numbers that are known beforehand.
use Rattle.std.proofs.Common.{◌≡◌, refl, ap, arith, ℕ, zero, suc, ◌+◌, ◌*◌, ◌<◌, ◌≤◌, Result, Ok, Err, List}
use Rattle.std.specs.Prelude.{IfErr}
use Rattle.std.proofs.Math.Nat.{mul-le-mul_right}
use Rattle.isl_meter.specs.declared.Cut.{Cut}
use Rattle.isl_meter.specs.declared.Cut.TheVariants.{Budget, NoMemory}
use Rattle.isl_meter.specs.Gauge.{Gauge, IsAnsweredWithin, spent_out}
use Rattle.isl_piece.specs.declared.row.Row.{Row}
use Rattle.isl_omega.specs.Equality.{HasEquality}
use Rattle.isl_omega.specs.Magnitude.{IsNoOverflow}
use Rattle.isl_omega.specs.Units.{paid}
use Rattle.isl_shadows.specs.Exact.{IsExactColumn, pairs_on}
use Rattle.isl_shadows.specs.Tame.{IsTameWithin, IsTameColumn}

-- ---- a cut behind units that were used exactly
pub answered_behind : {A B : Type 0} (used next most : ℕ) (g h k : Gauge) (cut : Cut) → used + next ≤ most → h ≡ paid used g
    → IsAnsweredWithin {A = A} next h k (Err cut) → IsAnsweredWithin {A = B} most g k (Err cut)
answered_behind used next most g h k cut room e p =
    let units = ap (λ (x : Gauge). x.units) e in
    let budget = ap (λ (x : Gauge). x.budget) e in
    record {
      units = let own = p.units in omega arith;
      answered = λ left. p.answered (omega arith);
    }

-- so many turns of u units each, and n turns more
pub answered_share : {A B : Type 0} (m n l u : ℕ) (g h k : Gauge) (cut : Cut) → m + n ≤ l → h ≡ paid (m * u) g
    → IsAnsweredWithin {A = A} (n * u) h k (Err cut) → IsAnsweredWithin {A = B} (l * u) g k (Err cut)
answered_share m n l u g h k cut room e p = answered_behind (m * u) (n * u) (l * u) g h k cut (by m n l u room) e p
  where
    times_sum : (m n u : ℕ) → m * u + n * u ≡ (m + n) * u
    times_sum zero n u = omega arith
    times_sum (suc m) n u = omega (arith, times_sum m n u)

    by : (m n l u : ℕ) → m + n ≤ l → m * u + n * u ≤ l * u
    by m n l u room = let t = mul-le-mul_right u room in let s = times_sum m n u in omega arith

pub answered_memory : {A : Type 0} (n most : ℕ) (g h : Gauge) → n ≤ most → h ≡ paid n g → IsAnsweredWithin {A = A} most g h (Err NoMemory)
answered_memory n most g h room e = let units = ap (λ (x : Gauge). x.units) e in record { units = omega arith; answered = λ left. refl }

-- a unit is refused
pub answered_refused : {A : Type 0} (most : ℕ) (g h : Gauge) → 0 < most → g.units ≡ g.budget → h ≡ spent_out g
    → IsAnsweredWithin {A = A} most g h (Err Budget)
answered_refused most g h some full e = record {
  units = let units = ap (λ (x : Gauge). x.units) e in omega arith;
  answered = λ left. absurd (omega arith);
}

-- ---- results that say the same of a cut
pub answered_cut_same : {A B : Type 0} (most : ℕ) (g h : Gauge) (cut : Cut) → IsAnsweredWithin {A = A} most g h (Err cut)
    → IsAnsweredWithin {A = B} most g h (Err cut)
answered_cut_same most g h cut p = record { units = p.units; answered = p.answered }

pub within_cut : {A B : Type 0} (most : ℕ) (g h : Gauge) (rows : List Row) (col : ℕ) (cut : Cut) → IsTameWithin {A = A} most g h rows col (Err cut)
    → IsTameWithin {A = B} most g h rows col (Err cut)
within_cut most g h rows col cut p = record {
  numbers = p.numbers;
  answered = λ few. answered_cut_same most g h cut (p.answered few);
}

pub tame_cut : {A B : Type 0} (g h : Gauge) (rows : List Row) (col : ℕ) (cut : Cut) → IsTameColumn {A = A} g h rows col (Err cut)
    → IsTameColumn {A = B} g h rows col (Err cut)
tame_cut g h rows col cut p = record {
  exact = λ exact none. within_cut (pairs_on col rows) g h rows col cut (p.exact exact none);
  solved = λ equality. within_cut 1 g h rows col cut (p.solved equality);
}

-- ---- results without a cut, or for want of memory
memory_numbers : {A : Type 0} (result : Result A Cut) → IfErr result (λ cut. cut ≡ NoMemory) → IsNoOverflow result
memory_numbers (Ok value) m = tt
memory_numbers (Err cut) m = λ e. cc

pub within_used : {A : Type 0} (most : ℕ) (g h : Gauge) (rows : List Row) (col : ℕ) (result : Result A Cut) → IfErr result (λ cut. cut ≡ NoMemory)
    → h.units ≤ g.units + most → IsTameWithin most g h rows col result
within_used most g h rows col result m few = record {
  numbers = λ u w all room. memory_numbers result m;
  answered = λ _. record { units = few; answered = λ left. m };
}

pub tame_used : {A : Type 0} (g h : Gauge) (rows : List Row) (col : ℕ) (result : Result A Cut) → IfErr result (λ cut. cut ≡ NoMemory)
    → (IsExactColumn col rows → ¬ HasEquality col rows → h.units ≤ g.units + pairs_on col rows) → (HasEquality col rows → h.units ≡ g.units)
    → IsTameColumn g h rows col result
tame_used g h rows col result m exact solved = record {
  exact = λ e n. within_used (pairs_on col rows) g h rows col result m (exact e n);
  solved = λ q. within_used 1 g h rows col result m (let same = solved q in omega arith);
}

pub tame_ok : {A : Type 0} (g h : Gauge) (rows : List Row) (col : ℕ) (value : A)
    → (IsExactColumn col rows → ¬ HasEquality col rows → h.units ≤ g.units + pairs_on col rows) → (HasEquality col rows → h.units ≡ g.units)
    → IsTameColumn g h rows col (Ok value)
tame_ok g h rows col value exact solved = tame_used g h rows col (Ok value) tt exact solved

-- where neither is so
pub tame_never : {A : Type 0} (g h : Gauge) (rows : List Row) (col : ℕ) (result : Result A Cut)
    → (IsExactColumn col rows → ¬ HasEquality col rows → ⊥) → ¬ HasEquality col rows → IsTameColumn g h rows col result
tame_never g h rows col result exact solved = record {
  exact = λ e n. absurd (exact e n);
  solved = λ q. absurd (solved q);
}

-- of an exact column, and of one that an equality has
pub tame_exact : {A : Type 0} (g h : Gauge) (rows : List Row) (col : ℕ) (result : Result A Cut) → ¬ HasEquality col rows
    → IsTameWithin (pairs_on col rows) g h rows col result → IsTameColumn g h rows col result
tame_exact g h rows col result none p = record { exact = λ _ _. p; solved = λ q. absurd (none q) }

pub tame_solved : {A : Type 0} (g h : Gauge) (rows : List Row) (col : ℕ) (result : Result A Cut) → HasEquality col rows
    → IsTameWithin 1 g h rows col result → IsTameColumn g h rows col result
tame_solved g h rows col result equality p = record { exact = λ _ none. absurd (none equality); solved = λ _. p }
