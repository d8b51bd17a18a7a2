-- public: what each row of a system says of one column.
use Rattle.std.specs.Prelude.{◌≡◌, ℕ, zero, suc, Bool, true, false, ℤ, pos, negsuc, ◌<ℤ◌, List, All, filter}
use Rattle.isl_math.specs.Divide as divide
use Rattle.isl_math.specs.Divide.{floor_mod}
use Rattle.isl_meter.specs.Gauge.{Gauge}
use Rattle.isl_piece.specs.declared.row.RowKind.{RowKind}
use Rattle.isl_piece.specs.declared.row.RowKind.TheVariants as kind
use Rattle.isl_piece.specs.declared.row.Row.{Row}
use Rattle.isl_piece.specs.Row.{coef_at}
use Rattle.isl_omega.specs.Column.{HoldAt, IsFree, IsProper}
use Rattle.isl_omega.specs.declared.sides.Side.{Side}
use Rattle.isl_omega.specs.declared.sides.Side.TheVariants.{Lower, Upper, Divides, NotDivides, Free}
use Rattle.isl_omega.specs.declared.sides.Sides.{Sides}

-- a congruence depends on the column where its modulus leaves something of the coefficient
abbrev pub unless_multiple : Side → ℤ → Side
unless_multiple side (pos zero) = Free
unless_multiple side (pos (suc n)) = side
unless_multiple side (negsuc n) = side

-- by the sign of the coefficient of a row that is at least 0
abbrev pub by_sign : ℤ → Side
by_sign (pos zero) = Free
by_sign (pos (suc n)) = Lower
by_sign (negsuc n) = Upper

-- what a row says of the column: an equality is not looked at
abbrev pub side_of_kind : RowKind → ℤ → ℤ → Side
side_of_kind kind.Zero k c = Free
side_of_kind kind.AtLeast k c = by_sign c
side_of_kind kind.Divides k c = unless_multiple Divides (floor_mod c k)
side_of_kind kind.NotDivides k c = unless_multiple NotDivides (floor_mod c k)

abbrev pub side_of : ℕ → Row → Side
side_of col r = side_of_kind r.kind r.k (coef_at r col)

abbrev pub is_same : Side → Side → Bool
is_same Lower Lower = true
is_same Upper Upper = true
is_same Divides Divides = true
is_same NotDivides NotDivides = true
is_same Free Free = true
is_same _ _ = false

-- the rows on one side, in order
abbrev pub on_side : Side → ℕ → List Row → List Row
on_side side col rows = filter (λ r. is_same side (side_of col r)) rows

-- each list has the rows of its side
pub record AreSidesOf (rows : List Row) (col : ℕ) (sides : Sides) : Type 0 where
  pub lowers : sides.lowers ≡ on_side Lower col rows
  pub uppers : sides.uppers ≡ on_side Upper col rows
  pub divides : sides.divides ≡ on_side Divides col rows
  pub not_divides : sides.not_divides ≡ on_side NotDivides col rows
  pub free : sides.free ≡ on_side Free col rows

-- ---- what the rows of each side are
pub record IsLower (g : Gauge) (columns col : ℕ) (r : Row) : Type 0 where
  pub proper : IsProper g columns r
  pub kind : r.kind ≡ kind.AtLeast
  pub factor : pos 0 <ℤ coef_at r col

pub record IsUpper (g : Gauge) (columns col : ℕ) (r : Row) : Type 0 where
  pub proper : IsProper g columns r
  pub kind : r.kind ≡ kind.AtLeast
  pub factor : coef_at r col <ℤ pos 0

pub record IsDivides (g : Gauge) (columns : ℕ) (r : Row) : Type 0 where
  pub proper : IsProper g columns r
  pub kind : r.kind ≡ kind.Divides

pub record IsNotDivides (g : Gauge) (columns col : ℕ) (r : Row) : Type 0 where
  pub proper : IsProper g columns r
  pub kind : r.kind ≡ kind.NotDivides
  pub depends : ¬ divide.Divides r.k (coef_at r col)

pub record IsFreeRow (g : Gauge) (columns col : ℕ) (r : Row) : Type 0 where
  pub proper : IsProper g columns r
  pub free : IsFree col r

pub record AreSided (g : Gauge) (columns col : ℕ) (sides : Sides) : Type 0 where
  pub lowers : All (IsLower g columns col) sides.lowers
  pub uppers : All (IsUpper g columns col) sides.uppers
  pub divides : All (IsDivides g columns) sides.divides
  pub not_divides : All (IsNotDivides g columns col) sides.not_divides
  pub free : All (IsFreeRow g columns col) sides.free

-- the rows of all sides hold with x at the column
pub record SidesHold (sides : Sides) (col : ℕ) (point : List ℤ) (x : ℤ) : Type 0 where
  pub lowers : HoldAt sides.lowers col point x
  pub uppers : HoldAt sides.uppers col point x
  pub divides : HoldAt sides.divides col point x
  pub not_divides : HoldAt sides.not_divides col point x
  pub free : HoldAt sides.free col point x
