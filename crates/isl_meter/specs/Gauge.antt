-- public: what a meter shows, and what calls with a meter do to it.
use Rattle.std.specs.Prelude.{◌≡◌, ℕ, ◌-◌, ◌^◌, ◌<◌, ◌≤◌, ℤ, pos, ◌+ℤ◌, ◌≤ℤ◌, unsigned_abs, ◌+◌, Result, IfErr, MatchResult}
use Rattle.isl_math.specs.Count.{risen, Rose}
use Rattle.isl_meter.specs.declared.Cut.{Cut}
use Rattle.isl_meter.specs.declared.Cut.TheVariants.{Overflow, Budget, NoMemory}

-- the number of bits of the limit; the budget of units, and how many are used of it, as isl's bound
-- on operations counts them; how often a number passed the limit; how often a unit was refused
pub record Gauge : Type 0 where
  pub bits : ℕ
  pub budget : ℕ
  pub units : ℕ
  pub overflows : ℕ
  pub spents : ℕ

-- ---- the limit
-- the greatest magnitude
abbrev pub limit_of : Gauge → ℤ
limit_of g = pos (2 ^ g.bits - 1)

-- the magnitude of z is at most the limit
abbrev pub IsWithin : Gauge → ℤ → Type 0
IsWithin g z = unsigned_abs z < 2 ^ g.bits

-- ---- one step
-- the meter after an overflow, which it counts
abbrev pub overflown : Gauge → Gauge
overflown g = record g { overflows = risen g.overflows }

-- the meter after a unit that was refused, which it counts
abbrev pub spent_out : Gauge → Gauge
spent_out g = record g { spents = risen g.spents }

-- r is the exact value z where that is within the limit, and the meter is as it was;
-- else r is an error, which is counted
abbrev pub IsMeasured : {E : Type 0} → Gauge → Gauge → ℤ → Result ℤ E → Type 0
IsMeasured old new z r = MatchResult r (λ v. (v ≡ z) × IsWithin old v × (new ≡ old)) (λ _. ¬ IsWithin old z × (new ≡ overflown old))

-- ---- from one moment to a later one
-- the limit and the budget are as they were, and no count fell
pub record IsKept (old new : Gauge) : Type 0 where
  pub bits : new.bits ≡ old.bits
  pub budget : new.budget ≡ old.budget
  pub units : old.units ≤ new.units
  pub overflows : old.overflows ≤ new.overflows
  pub spents : old.spents ≤ new.spents

-- units were used, and nothing else happened
pub record IsCharged (old new : Gauge) : Type 0 where
  pub same : new ≡ record old { units = new.units }
  pub units : old.units ≤ new.units

-- why work was cut: a number passed the limit, and no unit was refused; or the units reached the budget, and one more was refused,
-- and no number passed the limit; want of memory leaves no mark on a meter but the units that were used before it
abbrev pub HasCause : Gauge → Gauge → Cut → Type 0
HasCause old new Overflow = Rose old.overflows new.overflows × (new.spents ≡ old.spents)
HasCause old new Budget = (new.budget ≤ new.units) × Rose old.spents new.spents × (new.overflows ≡ old.overflows)
HasCause old new NoMemory = IsCharged old new

-- the meter was kept, and the cut has its cause
pub record IsCutBy (old new : Gauge) (cut : Cut) : Type 0 where
  pub kept : IsKept old new
  pub cause : HasCause old new cut

-- what a call leaves that works under a meter: an answer, and units alone were used; or work was cut, for a cause that the meter shows
abbrev pub IsMetered : {A : Type 0} → Gauge → Gauge → Result A Cut → Type 0
IsMetered old new result = MatchResult result (λ _. IsCharged old new) (IsCutBy old new)

-- ---- units
-- units alone were used, at most z. A bound is a whole number, since a proof may not know it to be 0 or more
pub record IsChargedUpTo (z : ℤ) (old new : Gauge) : Type 0 where
  pub charged : IsCharged old new
  pub most : pos new.units ≤ℤ (pos old.units +ℤ z)

-- work was cut, after at most z units
pub record IsCutUpTo (z : ℤ) (old new : Gauge) (cut : Cut) : Type 0 where
  pub by : IsCutBy old new cut
  pub most : pos new.units ≤ℤ (pos old.units +ℤ z)

-- at most `most` units were used; and where so many were left, a call that ended without an answer ended for want of memory alone
pub record IsAnsweredWithin {A : Type 0} (most : ℕ) (old new : Gauge) (result : Result A Cut) : Type 0 where
  pub units : new.units ≤ old.units + most
  pub answered : old.units + most ≤ old.budget → IfErr result (λ cut. cut ≡ NoMemory)

-- ---- what a call that may be cut leaves
-- a result of P, and the meter is as it was; or work was cut, and no unit was used
abbrev pub IsDone : {A : Type 0} → Gauge → Gauge → (A → Type 0) → Result A Cut → Type 0
IsDone old new P result = MatchResult result (λ v. P v × (new ≡ old)) (IsCutUpTo (pos 0) old new)

-- a result of P after at most z units; or work was cut after at most z
abbrev pub IsDoneWithin : {A : Type 0} → ℤ → Gauge → Gauge → (A → Type 0) → Result A Cut → Type 0
IsDoneWithin z old new P result = MatchResult result (λ v. P v × IsChargedUpTo z old new) (IsCutUpTo z old new)
