-- public: rows as forms, and one of them changed so that it is 0 at one point more.
use Rattle.std.specs.Prelude.{◌≡◌, ◌≢◌, ℕ, suc, ◌+◌, ℤ, pos, neg_ℤ, List, [], ◌∷◌, ◌++◌, map, take, drop, replicate, slice_index_or}
use Rattle.std.specs.Prelude.{slice_set}
use Rattle.std.specs.List.{AllZip}
use Rattle.isl_meter.specs.Gauge.{Gauge}
use Rattle.isl_piece.specs.declared.row.Row.{Row}
use Rattle.isl_piece.specs.declared.row.RowKind.TheVariants.{Zero}
use Rattle.isl_piece.specs.Normal.{normal_row, Kept}
use Rattle.isl_piece.specs.Row.{IsRowWithin, IsWellFormed, value_at}
use Rattle.isl_span.specs.Spanned.{Fun, IsMultipleOf, exchanged}

-- ---- forms
-- an equation over so many columns, within the limit, that is its own normal row
pub record IsForm (g : Gauge) (columns : ℕ) (r : Row) : Type 0 where
  pub kind : r.kind ≡ Zero
  pub formed : IsWellFormed columns r
  pub within : IsRowWithin g r
  pub normal : normal_row r ≡ Kept r

-- the forms of equations
abbrev pub forms_of : List Row → List Fun
forms_of rows = map value_at rows

-- some whole point is one where the form is 0, and another one is not
pub record IsContingentForm (r : Row) : Type 0 where
  pub zero : List ℤ
  pub is_zero : value_at r zero ≡ pos 0
  pub other : List ℤ
  pub is_other : value_at r other ≢ pos 0

-- ---- the equations of one point
-- the equation over so many columns that says that one of them is this number
abbrev pub number_row : ℕ → ℕ → ℤ → Row
number_row columns column number =
    record { kind = Zero; coefs = slice_set (replicate columns (pos 0)) column (pos 1); constant = neg_ℤ number; k = pos 1 }

-- one for each number, of which the first is that of the column `first`
abbrev pub number_rows : ℕ → ℕ → List ℤ → List Row
number_rows columns first [] = []
number_rows columns first (number ∷ numbers) = number_row columns first number ∷ number_rows columns (suc first) numbers

-- ---- one form exchanged for another
-- the new form is the one exchanged, divided
pub record IsExchanged (g : Gauge) (columns : ℕ) (other : Row) (point : List ℤ) (form new : Row) : Type 0 where
  pub made : IsForm g columns new
  pub multiple : IsMultipleOf (exchanged (value_at other) point (value_at form)) (value_at new)

-- two forms are 0 at some point, and at another one the first of them alone
pub record AreToldApart (form other : Row) : Type 0 where
  pub zero : List ℤ
  pub both : (value_at form zero ≡ pos 0) × (value_at other zero ≡ pos 0)
  pub own : List ℤ
  pub alone : (value_at form own ≢ pos 0) × (value_at other own ≡ pos 0)

-- the first forms are exchanged, the one at the place is left out, and the others stay
pub record AreExchanged (g : Gauge) (columns at : ℕ) (point : List ℤ) (forms new : List Row) : Type 0 where
  pub first : List Row
  pub each : AllZip (λ form left. (d : Row) → IsExchanged g columns (slice_index_or forms at d) point form left) (take at forms) first
  pub is : new ≡ first ++ drop (at + 1) forms
