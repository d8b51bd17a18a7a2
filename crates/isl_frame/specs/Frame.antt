-- public: frames: columns as quotients of forms over the variables in scope, and rows over them. (Feautrier, on unimodular changes of
-- variables; isl manual, on schedules)
use Rattle.std.specs.Prelude.{◌≡◌, ◌≢◌, ◌↔◌, ℕ, ◌+◌, ◌<◌, ℤ, pos, neg_ℤ, ◌*ℤ◌, ◌<ℤ◌, List, [], ◌∷◌, ◌++◌, All, length, map, replicate}
use Rattle.std.specs.Prelude.{slice_index_or}
use Rattle.std.specs.List.{remove}
use Rattle.isl_math.specs.Divide as divide
use Rattle.isl_math.specs.Divide.{floor_div}
use Rattle.isl_math.specs.Dot.{scaled}
use Rattle.isl_math.specs.Order.{abs_of, sign_of}
use Rattle.isl_piece.specs.declared.row.RowKind.TheVariants.{Divides}
use Rattle.isl_piece.specs.declared.row.Row.{Row}
use Rattle.isl_piece.specs.Row.{coef_at, value_at, HoldsRow, IsWellFormed}
use Rattle.isl_piece.specs.System.{HoldRows}

-- A frame has a congruence over the variables for each column. Where it holds, the column's number is the form divided by the modulus.
pub record IsFrame (variables : ℕ) (frame : List Row) : Type 0 where
  pub formed : All (IsWellFormed variables) frame
  pub divides : All (λ r. r.kind ≡ Divides) frame

-- the number of a column where the variables have these numbers
abbrev pub column_at : List ℤ → Row → ℤ
column_at point entry = floor_div (value_at entry point) entry.k

-- the numbers of all columns
abbrev pub columns_at : List Row → List ℤ → List ℤ
columns_at frame point = map (column_at point) frame

-- the columns that the row names are forms: their moduli are 1
abbrev pub NamesForms : List Row → Row → Type 0
NamesForms frame r = (at : ℕ) (d : Row) → at < length frame → coef_at r at ≢ pos 0 → (slice_index_or frame at d).k ≡ pos 1

-- the row over the variables says what the other says of the columns, wherever these are whole
pub record IsThrough (variables : ℕ) (row : Row) (frame : List Row) (made : Row) : Type 0 where
  pub formed : IsWellFormed variables made
  pub kind : made.kind ≡ row.kind
  pub points : (point : List ℤ) → HoldRows frame point → HoldsRow made point ↔ HoldsRow row (columns_at frame point)

-- The row over the variables and one column behind them says what the other says of the columns and that one, wherever the columns are
-- whole; and that one's coefficient has the same sign. Where the other names forms alone, that coefficient and the modulus are the same.
pub record IsThroughBehind (variables : ℕ) (row : Row) (frame : List Row) (made : Row) : Type 0 where
  pub formed : IsWellFormed (variables + 1) made
  pub kind : made.kind ≡ row.kind
  pub points : (point : List ℤ) (x : ℤ) → length point ≡ variables → HoldRows frame point
      → HoldsRow made (point ++ x ∷ []) ↔ HoldsRow row (columns_at frame point ++ x ∷ [])
  pub scale : ℤ
  pub positive : pos 0 <ℤ scale
  pub last : coef_at made variables ≡ scale *ℤ coef_at row (length frame)
  pub forms : NamesForms frame row → (made.k ≡ row.k) × (coef_at made variables ≡ coef_at row (length frame))

-- the row's form but for the last column, with the sign at which c x + f is |c| x - f or its negative, and |c| as the modulus
abbrev pub isolated : ℕ → Row → Row
isolated variables r =
    let sign = sign_of (neg_ℤ (coef_at r variables)) in
    record {
      kind = Divides;
      coefs = scaled sign (remove r.coefs variables);
      constant = sign *ℤ r.constant;
      k = abs_of (coef_at r variables);
    }

-- the equality over the variables and one column behind them says which number the column has, and where it has one
pub record IsSolved (variables : ℕ) (row entry : Row) : Type 0 where
  pub formed : IsWellFormed variables entry
  pub divides : entry.kind ≡ Divides
  pub points : (point : List ℤ) (x : ℤ) → length point ≡ variables
      → HoldsRow row (point ++ x ∷ []) ↔ (HoldsRow entry point × (x ≡ column_at point entry))

-- no number but 1 and its negative divides the modulus and all coefficients
abbrev pub IsLowest : Row → Type 0
IsLowest entry = (d : ℤ) → divide.Divides d entry.k → All (divide.Divides d) entry.coefs → divide.Divides d (pos 1)

-- ---- one variable more
-- the last of the variables, as a column
abbrev pub own_column : ℕ → Row
own_column variables = record { kind = Divides; coefs = replicate variables (pos 0) ++ pos 1 ∷ []; constant = pos 0; k = pos 1 }

-- the frame over one variable more, which is its last column
pub record IsWithVariable (variables : ℕ) (frame made : List Row) : Type 0 where
  pub framed : IsFrame (variables + 1) made
  pub columns : (point : List ℤ) (x : ℤ) → length point ≡ variables → columns_at made (point ++ x ∷ []) ≡ columns_at frame point ++ x ∷ []
  pub whole : (point : List ℤ) (x : ℤ) → length point ≡ variables → HoldRows made (point ++ x ∷ []) ↔ HoldRows frame point

-- the frame whose columns are the variables, as forms
pub record IsOwnFrame (variables : ℕ) (frame : List Row) : Type 0 where
  pub framed : IsFrame variables frame
  pub columns : (point : List ℤ) → length point ≡ variables → columns_at frame point ≡ point
  pub whole : (point : List ℤ) → length point ≡ variables → HoldRows frame point
  pub forms : All (λ r. r.k ≡ pos 1) frame
