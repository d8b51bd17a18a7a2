-- inner: the whole numbers between two ends, and the bounds among rows over one column, which leave such numbers.
use Rattle.std.specs.Prelude.{ℤ, [], ◌∷◌, IfSome}
use Rattle.isl_meter.specs.Gauge.{Gauge, IsWithin}
use Rattle.isl_piece.specs.declared.row.RowKind.{RowKind}
use Rattle.isl_piece.specs.declared.row.RowKind.TheVariants.{Zero, AtLeast, Divides, NotDivides}
use Rattle.isl_piece.specs.declared.row.Row.{Row}
use Rattle.isl_piece.specs.Row.{HoldsRow}
use Rattle.isl_points.specs.Ends.{IsFrom, IsTo}
use Rattle.isl_points.specs.declared.interval.Interval.{Interval}

abbrev pub IsBetween : Interval → ℤ → Type 0
IsBetween i x = IsFrom i.low x × IsTo i.high x

-- the ends are within the limit
abbrev pub AreEndsWithin : Gauge → Interval → Type 0
AreEndsWithin g i = IfSome i.low (IsWithin g) × IfSome i.high (IsWithin g)

-- equalities and inequalities
abbrev pub IsBoundKind : RowKind → Type 0
IsBoundKind Zero = Unit {0}
IsBoundKind AtLeast = Unit {0}
IsBoundKind Divides = ⊥
IsBoundKind NotDivides = ⊥

-- the row holds at the number x of its only column, where it is a bound
abbrev pub MeetsBound : ℤ → Row → Type 0
MeetsBound x r = IsBoundKind r.kind → HoldsRow r (x ∷ [])
