-- public: calls whose errors are refusals of a meter, as results that may be cut; and what calls leave on systems whose work is bounded.
use Rattle.std.specs.Prelude.{ℕ, ◌+◌, ◌*◌, ◌≤◌, Result, Ok, Err, IfOk}
use Rattle.isl_meter.specs.declared.Cut.{Cut}
use Rattle.isl_meter.specs.Gauge.{Gauge, IsAnsweredWithin, IsCharged}
use Rattle.isl_piece.specs.Cut.{IsNoOverflow}

-- the result with the cut in the place of an error, as `?` answers it
abbrev pub with_cut : {A E : Type 0} → Cut → Result A E → Result A Cut
with_cut cut (Ok value) = Ok value
with_cut cut (Err e) = Err cut

-- answered within so many units, with an answer of P; and however few units are left, no number passes the limit
pub record IsTame {A : Type 0} (most : ℕ) (old new : Gauge) (P : A → Type 0) (result : Result A Cut) : Type 0 where
  pub within : IsAnsweredWithin most old new result
  pub numbers : IsNoOverflow result
  pub answer : IfOk result P

-- so many turns of a loop, of so many units each, and P holds of what they made
pub record IsTameSoFar (turns each : ℕ) (old now : Gauge) (P : Type 0) : Type 0 where
  pub charged : IsCharged old now
  pub units : now.units ≤ old.units + turns * each
  pub holds : P
