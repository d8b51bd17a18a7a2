-- inner: calls on difference constraints that are answered within so many units, and what they leave. (Miné, difference-bound matrices; Pugh,
-- the Omega test)
use Rattle.std.specs.Prelude.{◌≡◌, ℕ, ◌+◌, ◌≤◌, List, [], ◌++◌, All, IfSome, Option, Result, length, ℤ, ◌^◌, unsigned_abs}
use Rattle.isl_meter.specs.declared.Cut.{Cut}
use Rattle.isl_meter.specs.Gauge.{Gauge}
use Rattle.isl_piece.specs.declared.row.Row.{Row}
use Rattle.isl_piece.specs.declared.system.System.{System}
use Rattle.isl_column.specs.Parts.{PartsView, IsHeadAlone}
use Rattle.isl_ledger.specs.Answered.{IsTame}
use Rattle.isl_ledger.specs.Difference.{IsDifferenceRow}

-- ---- what is given
-- a system without definitions, of difference constraints with constants of so many bits
pub record IsPlainDifference (s : System) (bits : ℕ) : Type 0 where
  pub undefined : s.definitions ≡ []
  pub rows : All (IsDifferenceRow bits) s.rows

-- difference constraints are still to come, as a head alone, or nothing
pub record IsDifferenceHead (parts : PartsView) (bits : ℕ) : Type 0 where
  pub head : Option (List Row)
  pub alone : IsHeadAlone head parts
  pub rows : IfSome head (All (IsDifferenceRow bits))

-- ---- what is left
-- one list of difference constraints, or none
pub record AreFewDifferences (bits : ℕ) (lists : List (List Row)) : Type 0 where
  pub few : length lists ≤ 1
  pub rows : All (All (IsDifferenceRow bits)) lists

-- such a list was added, or none
pub record AddsFewDifferences (bits : ℕ) (old new : List (List Row)) : Type 0 where
  pub added : List (List Row)
  pub pushed : new ≡ old ++ added
  pub are : AreFewDifferences bits added

-- each number of a point leaves so much of a power of two as another one is
abbrev pub AreNumbersLeft : ℕ → ℕ → List ℤ → Type 0
AreNumbersLeft bits most xs = All (λ x. unsigned_abs x + 2 ^ bits ≤ 2 ^ most) xs

-- ---- calls
-- where difference constraints are given, and the bits of their constants leave room for one bit more with each of so many columns that
-- go, at 127 bits work ends within so many units, and an answer leaves what the bits tell
pub record IsTameOn {A : Type 0} (gone : ℕ) (Given : ℕ → Type 0) (most : ℕ) (old new : Gauge) (Left : ℕ → A → Type 0)
    (result : Result A Cut) : Type 0 where
  pub tame : (bits : ℕ) → old.bits ≡ 127 → bits + gone ≤ 120 → Given bits → IsTame most old new (Left bits) result
