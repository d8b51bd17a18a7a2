-- inner: one column out of rows by an equality that has it with 1 or -1. (Pugh, the Omega test: substitution by an equality)
use Rattle.std.specs.Prelude.{◌≡◌, ◌↔◌, ◌<◌, ℕ, ◌-◌, ℤ, List, length, slice_index_or, All, unsigned_abs}
use Rattle.isl_meter.specs.Gauge.{Gauge}
use Rattle.isl_piece.specs.declared.row.RowKind.TheVariants.{Zero}
use Rattle.isl_piece.specs.declared.row.Row.{Row}
use Rattle.isl_piece.specs.Row.{coef_at}
use Rattle.isl_piece.specs.System.{HoldRows}
use Rattle.isl_shadows.specs.Column.{HoldAtSome}
use Rattle.isl_omega.specs.Column.{IsProper, dropped}
use Rattle.isl_omega.specs.Equality.{image_of}
use Rattle.isl_elim.specs.declared.along.Given.{Given}
use Rattle.isl_elim.specs.declared.solved.UnitEquality.{UnitEquality}

-- an equality that has the column with 1 or -1
abbrev pub IsUnitEquality : ℕ → Row → Type 0
IsUnitEquality col r = (r.kind ≡ Zero) × (unsigned_abs (coef_at r col) ≡ 1)

-- such an equality among the rows, and one of its columns
pub record IsUnitEqualityOf (rows : List Row) (found : UnitEquality) : Type 0 where
  pub place : found.at < length rows
  pub inside : (d : Row) → found.col < length (slice_index_or rows found.at d).coefs
  pub unit : (d : Row) → IsUnitEquality found.col (slice_index_or rows found.at d)

-- a row where such an equality is 0, without the column
abbrev pub short_image : Row → ℕ → Row → Row
short_image fixed col r = dropped (image_of fixed col r) col

-- rows of one column less, which hold at a point exactly where some whole number at the column makes the others hold
pub record IsSubstituted (g : Gauge) (columns col : ℕ) (rows short : List Row) : Type 0 where
  pub proper : All (IsProper g (columns - 1)) short
  pub points : (point : List ℤ) → length point ≡ columns - 1 → HoldRows short point ↔ HoldAtSome rows col point

-- one of the columns, which the equality at the place has with 1 or -1
pub record IsGivenBy (rows : List Row) (cols : List ℕ) (given : Given) : Type 0 where
  pub index : ℕ
  pub among : index < length cols
  pub column : slice_index_or cols index 0 ≡ given.col
  pub place : given.at < length rows
  pub unit : (d : Row) → IsUnitEquality given.col (slice_index_or rows given.at d)
