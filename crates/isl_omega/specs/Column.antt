-- public: rows without one column, and when they say what other rows say of it. (Pugh, the Omega test)
use Rattle.std.specs.Prelude.{◌≡◌, ◌↔◌, ℕ, ℤ, pos, ◌+ℤ◌, List, length, All, MatchOption, Option}
use Rattle.std.specs.List.{insert, remove}
use Rattle.isl_math.specs.Divide as divide
use Rattle.isl_math.specs.Dot.{dot}
use Rattle.isl_meter.specs.Gauge.{Gauge}
use Rattle.isl_piece.specs.declared.row.RowKind.{RowKind}
use Rattle.isl_piece.specs.declared.row.RowKind.TheVariants.{Zero, AtLeast, Divides, NotDivides}
use Rattle.isl_piece.specs.declared.row.Row.{Row}
use Rattle.isl_piece.specs.Normal.{IsNormal}
use Rattle.isl_piece.specs.Row.{HoldsRow, IsWellFormed, IsRowWithin, coef_at}
use Rattle.isl_piece.specs.System.{HoldRows}

-- what stands beside the column: the row's value at a point of the other columns, without the column's part
abbrev pub rest_at : Row → ℕ → List ℤ → ℤ
rest_at r col point = dot (remove r.coefs col) point +ℤ r.constant

-- a row of this kind and modulus does not depend on a column with the coefficient c
abbrev pub IsFreeKind : RowKind → ℤ → ℤ → Type 0
IsFreeKind Zero k c = c ≡ pos 0
IsFreeKind AtLeast k c = c ≡ pos 0
IsFreeKind Divides k c = divide.Divides k c
IsFreeKind NotDivides k c = divide.Divides k c

-- the row does not depend on the column
abbrev pub IsFree : ℕ → Row → Type 0
IsFree col r = IsFreeKind r.kind r.k (coef_at r col)

-- the row without the column
abbrev pub dropped : Row → ℕ → Row
dropped r col = record { kind = r.kind; coefs = remove r.coefs col; constant = r.constant; k = r.k }

-- the rows hold with x at the column and the point's numbers at the others
abbrev pub HoldAt : List Row → ℕ → List ℤ → ℤ → Type 0
HoldAt rows col point x = All (λ r. HoldsRow r (insert point col x)) rows

-- a row over the columns, within the limit
pub record IsProper (g : Gauge) (columns : ℕ) (r : Row) : Type 0 where
  pub formed : IsWellFormed columns r
  pub within : IsRowWithin g r

-- normal rows over so many columns that hold exactly at the points of P
pub record AreRowsOf (g : Gauge) (columns : ℕ) (P : List ℤ → Type 0) (rows : List Row) : Type 0 where
  pub proper : All (IsProper g columns) rows
  pub normal : IsNormal rows
  pub points : (point : List ℤ) → length point ≡ columns → HoldRows rows point ↔ P point

-- the answer is such rows; none says that P has no point
abbrev pub IsAnswerFor : Gauge → ℕ → (List ℤ → Type 0) → Option (List Row) → Type 0
IsAnswerFor g columns P answer = MatchOption answer ((point : List ℤ) → length point ≡ columns → ¬ P point) (AreRowsOf g columns P)
