-- inner: what rows say of one another, at points.
use Rattle.std.specs.Prelude.{ℤ, List}
use Rattle.isl_piece.specs.declared.row.Row.{Row}
use Rattle.isl_piece.specs.Row.{HoldsRow}
use Rattle.isl_piece.specs.System.{HoldRows}

-- where the one row holds, the other does
pub record Implies (a b : Row) : Type 0 where
  pub holds : (xs : List ℤ) → HoldsRow a xs → HoldsRow b xs

-- the two rows hold together nowhere
pub record AreApart (a b : Row) : Type 0 where
  pub nowhere : (xs : List ℤ) → HoldsRow a xs → ¬ HoldsRow b xs

-- where the rows hold, the row does
pub record ImplyRow (rows : List Row) (r : Row) : Type 0 where
  pub holds : (xs : List ℤ) → HoldRows rows xs → HoldsRow r xs

-- where the rows hold, the others do
pub record ImplyRows (rows others : List Row) : Type 0 where
  pub holds : (xs : List ℤ) → HoldRows rows xs → HoldRows others xs

-- the rows and the others hold together nowhere
pub record AreApartRows (rows others : List Row) : Type 0 where
  pub nowhere : (xs : List ℤ) → HoldRows rows xs → ¬ HoldRows others xs
