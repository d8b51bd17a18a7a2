-- inner: whether rows and some systems have a point in common.
use Rattle.std.specs.Prelude.{◌≡◌, ℤ, List, Bool, false, true}
use Rattle.isl_piece.specs.declared.row.Row.{Row}
use Rattle.isl_piece.specs.System.{HoldRows}

-- no point of P is one of the rows
pub record AreApartIn (P : List ℤ → Type 0) (rows : List Row) : Type 0 where
  pub nowhere : (point : List ℤ) → P point → ¬ HoldRows rows point

-- whether some point of P is one of the rows
pub record IsMeeting (P : List ℤ → Type 0) (rows : List Row) (answer : Bool) : Type 0 where
  pub some : answer ≡ true → ¬ AreApartIn P rows
  pub none : answer ≡ false → AreApartIn P rows
