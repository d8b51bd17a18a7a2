-- inner: what checking a part of a proof leaves.
use Rattle.std.specs.Prelude.{◌≡◌, ◌<◌, ◌≤◌, ◌+◌, ◌-◌, Bool, ℕ, All, length, Result, MatchResult}
use Rattle.isl_meter.specs.Gauge.{Gauge, IsCutBy}
use Rattle.isl_meter.specs.declared.Cut.{Cut}
use Rattle.isl_meter.specs.declared.Cut.TheVariants.{Overflow, Budget}
use Rattle.isl_piece.specs.declared.row.Row.{Row}
use Rattle.isl_piece.specs.declared.row.RowKind.{RowKind}
use Rattle.isl_piece.specs.declared.row.RowKind.TheVariants.{Zero, AtLeast, Divides, NotDivides}
use Rattle.isl_piece.specs.declared.system.System.{System}
use Rattle.isl_piece.specs.Row.{HasModulus, IsRowWithin, IsWellFormed}
use Rattle.isl_refute.specs.Passes.{IsCounted}

-- a row over so many columns, with its numbers within the limit
pub record IsFact (g : Gauge) (columns : ℕ) (r : Row) : Type 0 where
  pub formed : IsWellFormed columns r
  pub within : IsRowWithin g r

-- a row over some first ones of so many columns
pub record IsOutRow (g : Gauge) (columns : ℕ) (r : Row) : Type 0 where
  pub width : length r.coefs ≤ columns
  pub modulus : HasModulus r.kind r.k
  pub within : IsRowWithin g r

abbrev pub IsOut : Gauge → ℕ → System → Type 0
IsOut g columns out = All (IsOutRow g columns) out.rows

-- how many rows the negation of a row of this kind has
abbrev pub negation_count : RowKind → ℕ
negation_count Zero = 2
negation_count AtLeast = 1
negation_count Divides = 1
negation_count NotDivides = 1

-- work was cut after at most so many units, and one at least was left of them where the budget was used up; for an overflow only where P
-- of the number of units
pub record IsCutOnly (P : ℕ → Type 0) (count : ℕ) (old new : Gauge) (cut : Cut) : Type 0 where
  pub by : IsCutBy old new cut
  pub most : new.units ≤ old.units + count
  pub budget : cut ≡ Budget → new.units < old.units + count
  pub overflow : cut ≡ Overflow → P (new.units - old.units)

abbrev pub IsChecked : Gauge → Gauge → Bool → ℕ → (ℕ → Type 0) → Result Bool Cut → Type 0
IsChecked old new says count P result = MatchResult result (λ b. (b ≡ says) × IsCounted old new count) (IsCutOnly P count old new)
