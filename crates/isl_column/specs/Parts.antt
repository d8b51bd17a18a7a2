-- public: what is left of rows without one column, of which one list after another is taken: a head that is built, splinters and residues that are
-- described. (Pugh, the Omega test)
use Rattle.std.specs.Prelude.{◌≡◌, ◌↔◌, ◌⊎◌, ◌<◌, ◌+◌, ◌-◌, ◌*◌, if◌then◌else◌, int_lt, ℕ, ℤ, pos, ◌+ℤ◌, ◌-ℤ◌, ◌*ℤ◌, ◌≤ℤ◌, List, [], ◌∷◌, All, length, unsigned_abs, IfSome, MatchOption, MatchResult, Option, Some, None, Result}
use Rattle.isl_meter.specs.Gauge.{Gauge, IsWithin, IsCharged, IsCutUpTo}
use Rattle.isl_meter.specs.declared.Cut.{Cut}
use Rattle.isl_piece.specs.declared.row.Row.{Row}
use Rattle.isl_piece.specs.Normal.{IsNormal}
use Rattle.isl_piece.specs.System.{HoldRows}
use Rattle.isl_omega.specs.Column.{IsProper}
use Rattle.isl_omega.specs.Sides.{AreSided}
use Rattle.isl_shadows.specs.Column.{HoldAtSome}
use Rattle.isl_column.specs.DarkShadow.{IsDarkShadow, HoldsDarkShadow, IsSmallDarkShadow}
use Rattle.isl_shadows.specs.Splinters.{splinter_count}
use Rattle.isl_shadows.specs.Residue.{IsPeriod, HasResidue, HasResidueBelow, residue_units}
use Rattle.isl_column.specs.declared.dark_shadow.DarkShadow.{DarkShadow}
use Rattle.isl_column.specs.declared.parts.Parts.{Parts}
use Rattle.isl_column.specs.declared.residue.Residues.{Residues}
use Rattle.isl_omega.specs.declared.shadow.Splinters.{Splinters}

-- what is still to come: the head and the splinters of a dark shadow, and residues
abbrev pub PartsView : Type 0
PartsView = Parts

-- some whole number at the column meets the sides and is of a residue that is still to come
abbrev pub HoldsResidue : Option Residues → ℕ → List ℤ → Type 0
HoldsResidue residues col point = MatchOption residues ⊥ (λ r. HasResidueBelow r.sides col r.period r.left point)

-- the head holds at the point, or a splinter, or what a residue leaves
pub record HoldsPart (parts : PartsView) (point : List ℤ) : Type 0 where
  pub some : HoldsDarkShadow parts.dark_shadow parts.column.at point ⊎ HoldsResidue parts.residues parts.column.at point

-- ---- how many
-- the head, if it is there
abbrev pub count_of : Option (List Row) → ℕ
count_of None = 0
count_of (Some rows) = 1

abbrev pub head_count : PartsView → ℕ
head_count parts = count_of parts.dark_shadow.dark

-- the most units that residues use
abbrev pub residues_most : ℕ → Option Residues → ℤ
residues_most col None = pos 0
residues_most col (Some r) = r.left *ℤ residue_units col r.period r.sides

-- the most units that all of them use: one for each splinter, and those of each residue
abbrev pub most_units : PartsView → ℤ
most_units parts = splinter_count parts.dark_shadow.tails.items +ℤ residues_most parts.column.at parts.residues

-- the least units that residues use: one for each pair of bounds, if one is still to come
abbrev pub residues_least : Option Residues → ℕ
residues_least None = 0
residues_least (Some r) = if int_lt (pos 0) r.left then length r.sides.lowers * length r.sides.uppers else 0

-- the least units that all of them use: those of residues, where nothing else is still to come
abbrev pub least_units_of : Option (List Row) → List Splinters → Option Residues → ℕ
least_units_of None [] residues = residues_least residues
least_units_of None (t ∷ tails) residues = 0
least_units_of (Some rows) tails residues = 0

abbrev pub least_units : PartsView → ℕ
least_units parts = least_units_of parts.dark_shadow.dark parts.dark_shadow.tails.items parts.residues

-- the most lists: the head, and one for each of those units
abbrev pub most_parts : PartsView → ℕ
most_parts parts = head_count parts + unsigned_abs (most_units parts)

-- ---- one list after another
-- residues of sides without congruences, by a period of the rows that moduli must not divide
pub record AreResidues (g : Gauge) (columns col : ℕ) (r : Residues) : Type 0 where
  pub sided : AreSided g columns col r.sides
  pub divides : r.sides.divides ≡ []
  pub period : IsPeriod col r.sides.not_divides r.period
  pub within : IsWithin g r.period
  pub not_negative : pos 0 ≤ℤ r.left
  pub not_above : r.left ≤ℤ r.period

-- lists over so many columns, once the column was taken out
pub record AreParts (g : Gauge) (columns : ℕ) (parts : PartsView) : Type 0 where
  pub width : columns ≡ parts.column.columns - 1
  pub shadow : IsDarkShadow g parts.column.columns parts.column.at parts.dark_shadow
  pub residues : IfSome parts.residues (AreResidues g parts.column.columns parts.column.at)

-- they hold together where some whole number at the column makes the rows hold
pub record ArePartsOf (g : Gauge) (columns col : ℕ) (rows : List Row) (parts : PartsView) : Type 0 where
  pub are : AreParts g (columns - 1) parts
  pub points : (point : List ℤ) → length point ≡ columns - 1 → HoldsPart parts point ↔ HoldAtSome rows col point

-- these rows are taken out of them
pub record IsNextPart (g : Gauge) (columns : ℕ) (old : PartsView) (rows : List Row) (new : PartsView) : Type 0 where
  pub proper : All (IsProper g columns) rows
  pub normal : IsNormal rows
  pub points : (point : List ℤ) → length point ≡ columns → HoldsPart old point ↔ (HoldRows rows point ⊎ HoldsPart new point)
  pub fewer : most_parts new < most_parts old
  pub rest : AreParts g columns new

-- none of them holds at a point
abbrev pub AreNone : ℕ → PartsView → Type 0
AreNone columns parts = (point : List ℤ) → length point ≡ columns → ¬ HoldsPart parts point

-- a list was taken out of them, or none of them holds anywhere
abbrev pub IsFoundIn : Gauge → ℕ → PartsView → Option (List Row) → PartsView → Type 0
IsFoundIn g columns old found new = MatchOption found (AreNone columns old) (λ rows. IsNextPart g columns old rows new)

-- the units that were used, and those that are still to come, are at most z
abbrev pub AreUnitsUpTo : ℤ → Gauge → Gauge → PartsView → Type 0
AreUnitsUpTo z old new parts = (pos new.units +ℤ most_units parts) ≤ℤ (pos old.units +ℤ z)

-- ---- what is known of some
-- nothing but the head
pub record IsHeadAlone (left : Option (List Row)) (parts : PartsView) : Type 0 where
  pub head : parts.dark_shadow.dark ≡ left
  pub tails : parts.dark_shadow.tails.items ≡ []
  pub residues : parts.residues ≡ None

-- numbers with which no list passes the limit of 127 bits
pub record AreSmallParts (parts : PartsView) : Type 0 where
  pub shadow : IsSmallDarkShadow parts.dark_shadow
  pub residues : parts.residues ≡ None

-- ---- inside
-- parts that hold at the points of P, after units that with those still to come are at most z
pub record AreBegun (z : ℤ) (columns : ℕ) (P : List ℤ → Type 0) (old new : Gauge) (parts : PartsView) : Type 0 where
  pub are : AreParts old (columns - 1) parts
  pub points : (point : List ℤ) → length point ≡ columns - 1 → HoldsPart parts point ↔ P point
  pub charged : IsCharged old new
  pub units : AreUnitsUpTo z old new parts

-- such parts, or work was cut after at most z units
abbrev pub IsBegun : ℤ → ℕ → (List ℤ → Type 0) → Gauge → Gauge → Result PartsView Cut → Type 0
IsBegun z columns P old new result = MatchResult result (AreBegun z columns P old new) (IsCutUpTo z old new)

-- the dark shadow of the last residue that was to come
pub record IsOpened (g : Gauge) (columns col : ℕ) (old : Residues) (dark_shadow : DarkShadow) (new : Residues) : Type 0 where
  pub shadow : IsDarkShadow g columns col dark_shadow
  pub points : (point : List ℤ) → length point ≡ columns - 1 → HoldsDarkShadow dark_shadow col point ↔ HasResidue old.sides col old.period new.left point
  pub sides : new.sides ≡ old.sides
  pub period : new.period ≡ old.period
  pub left : new.left ≡ old.left -ℤ pos 1

-- how many residues are still to come
abbrev pub residues_left : Option Residues → ℕ
residues_left None = 0
residues_left (Some r) = unsigned_abs r.left

-- the dark shadow of a residue, which is no longer to come
pub record IsOpenedFrom (g h : Gauge) (columns col : ℕ) (old : Option Residues) (dark_shadow : DarkShadow) (new : Option Residues) : Type 0 where
  pub charged : IsCharged g h
  pub used : g.units + residues_least old < h.units
  pub shadow : IsDarkShadow g columns col dark_shadow
  pub residues : IfSome new (AreResidues g columns col)
  pub points : (point : List ℤ) → length point ≡ columns - 1 → HoldsResidue old col point ↔ (HoldsDarkShadow dark_shadow col point ⊎ HoldsResidue new col point)
  pub units : (pos h.units +ℤ splinter_count dark_shadow.tails.items +ℤ residues_most col new) ≤ℤ (pos g.units +ℤ residues_most col old)
  pub fewer : residues_left new < residues_left old

-- no residue has a point
abbrev pub IsNoResidue : ℕ → ℕ → Option Residues → Type 0
IsNoResidue columns col residues = (point : List ℤ) → length point ≡ columns - 1 → ¬ HoldsResidue residues col point
