-- public: work that uses an exact number of units.
use Rattle.std.specs.Prelude.{◌≡◌, ℕ, ◌+◌, pos, Result, MatchResult}
use Rattle.isl_meter.specs.declared.Cut.{Cut}
use Rattle.isl_meter.specs.Gauge.{Gauge, IsCutUpTo, IsAnsweredWithin}
use Rattle.isl_piece.specs.Cut.{IsNoOverflow}

-- the meter after n more units
abbrev pub paid : ℕ → Gauge → Gauge
paid n g = record g { units = g.units + n }

-- a result of P after exactly n units; or work was cut after at most n
abbrev pub IsDoneFor : {A : Type 0} → ℕ → Gauge → Gauge → (A → Type 0) → Result A Cut → Type 0
IsDoneFor n old new P result = MatchResult result (λ v. P v × (new ≡ paid n old)) (IsCutUpTo (pos n) old new)

-- where no number passes the limit, and so many units are left, work ends for want of memory alone
abbrev pub IsAnsweredFor : {A : Type 0} → ℕ → Gauge → Gauge → Result A Cut → Type 0
IsAnsweredFor n old new result = IsNoOverflow result → IsAnsweredWithin n old new result
