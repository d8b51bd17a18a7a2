-- inner: the numbers that rows over one column leave: those between two ends, on a progression, at which no row is one that its modulus
-- must not divide.
use Rattle.std.specs.Prelude.{◌↔◌, ◌+◌, ◌≤◌, ℤ, ◌≤ℤ◌, ◌<ℤ◌, List, length, All, AllPairs, Contains, MatchOption, Option}
use Rattle.isl_meter.specs.Gauge.{Gauge, IsCharged, IsWithin}
use Rattle.isl_piece.specs.declared.row.Row.{Row}
use Rattle.isl_points.specs.Exclusion.{MeetsExclusion}
use Rattle.isl_points.specs.Progression.{IsOn, IsProgression}
use Rattle.isl_points.specs.declared.line.Line.{Line}

-- ---- lists of numbers
-- exactly the numbers of P, in ascending order, each once
pub record AreNumbersOf (P : ℤ → Type 0) (xs : List ℤ) : Type 0 where
  pub exact : (x : ℤ) → Contains xs x ↔ P x
  pub ordered : AllPairs (λ a b. a <ℤ b) xs

-- the numbers of P were listed, all within the limit, and at least a unit was used for each
pub record IsListing (old new : Gauge) (P : ℤ → Type 0) (xs : List ℤ) : Type 0 where
  pub numbers : AreNumbersOf P xs
  pub within : All (IsWithin old) xs
  pub counted : old.units + length xs ≤ new.units
  pub charged : IsCharged old new

-- the numbers of P below the next one, or all where there is no next one
abbrev pub AreNumbersBefore : Option ℤ → (ℤ → Type 0) → List ℤ → Type 0
AreNumbersBefore next P xs = MatchOption next (AreNumbersOf P xs) (λ y. AreNumbersOf (λ x. P x × x <ℤ y) xs)

-- what is known of the number behind x: there is none of P, or it is the least above x
abbrev pub IsNext : (ℤ → Type 0) → ℤ → Option ℤ → Type 0
IsNext P x next = MatchOption next ((z : ℤ) → P z → z ≤ℤ x) (λ y. P y × (x <ℤ y) × ((z : ℤ) → P z → x <ℤ z → y ≤ℤ z))

-- ---- lines
-- x lies between the ends, and on the progression
abbrev pub IsIn : Line → ℤ → Type 0
IsIn line x = (line.low ≤ℤ x × x ≤ℤ line.high) × IsOn line.steps x

-- the numbers of the line are within the limit
pub record IsLineWithin (g : Gauge) (line : Line) : Type 0 where
  pub low : IsWithin g line.low
  pub high : IsWithin g line.high
  pub steps : IsProgression g line.steps

-- x is one of the line's numbers, and no row excludes it
abbrev pub IsLeft : Line → List Row → ℤ → Type 0
IsLeft line rows x = IsIn line x × All (MeetsExclusion x) rows
