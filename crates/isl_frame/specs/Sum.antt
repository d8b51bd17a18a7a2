-- inner: the sum of a row's columns, as far as it is made.
use Rattle.std.specs.Prelude.{◌≡◌, ◌≢◌, ℕ, ◌<◌, ℤ, pos, ◌+ℤ◌, ◌*ℤ◌, ◌<ℤ◌, List, length, slice_index_or, take}
use Rattle.isl_math.specs.Dot.{dot}
use Rattle.isl_meter.specs.Gauge.{Gauge, IsWithin}
use Rattle.isl_piece.specs.declared.row.Row.{Row}
use Rattle.isl_piece.specs.Combine.{scaled_divisor}
use Rattle.isl_piece.specs.Row.{coef_at, value_at, HasModulus, HoldsRow, IsRowWithin}
use Rattle.isl_piece.specs.System.{HoldRows}
use Rattle.isl_frame.specs.Frame.{column_at, columns_at}
use Rattle.isl_frame.specs.declared.sum.Sum.{Sum}

-- a row over the variables, and a number above 0 that it was multiplied by
pub record IsSum (g : Gauge) (sum : Sum) : Type 0 where
  pub modulus : HasModulus sum.row.kind sum.row.k
  pub within : IsRowWithin g sum.row
  pub scale : IsWithin g sum.scale
  pub positive : pos 0 <ℤ sum.scale

-- one more column is added: the sum may be multiplied by a further number, which is 1 where the column is a form
pub record IsSumWith (sum : Sum) (coef : ℤ) (entry : Row) (new : Sum) : Type 0 where
  pub by : ℤ
  pub width : length new.row.coefs ≡ length sum.row.coefs
  pub kind : new.row.kind ≡ sum.row.kind
  pub modulus : new.row.k ≡ scaled_divisor sum.row.kind by sum.row.k
  pub scale : new.scale ≡ by *ℤ sum.scale
  pub form : (coef ≢ pos 0 → entry.k ≡ pos 1) → by ≡ pos 1
  pub value : (point : List ℤ) (z : ℤ) → HoldsRow entry point → value_at sum.row point ≡ sum.scale *ℤ z
      → value_at new.row point ≡ new.scale *ℤ (z +ℤ coef *ℤ column_at point entry)

-- the sum of the first columns and the constant, which is not multiplied where those that the row names are forms
pub record IsSumOf (variables : ℕ) (row : Row) (frame : List Row) (count : ℕ) (sum : Sum) : Type 0 where
  pub width : length sum.row.coefs ≡ variables
  pub kind : sum.row.kind ≡ row.kind
  pub modulus : sum.row.k ≡ scaled_divisor row.kind sum.scale row.k
  pub forms : ((at : ℕ) (d : Row) → at < count → coef_at row at ≢ pos 0 → (slice_index_or frame at d).k ≡ pos 1) → sum.scale ≡ pos 1
  pub value : (point : List ℤ) → HoldRows frame point
      → value_at sum.row point ≡ sum.scale *ℤ (dot (take count row.coefs) (take count (columns_at frame point)) +ℤ row.constant)
