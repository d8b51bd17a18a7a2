-- public: rows that are at least 0, divided as far as they go.
use Rattle.std.specs.Prelude.{◌≡◌, ◌↔◌, ℕ, ◌<◌, ◌≤◌, ℤ, pos, ◌<ℤ◌, List, unsigned_abs}
use Rattle.isl_piece.specs.declared.row.RowKind.TheVariants.{AtLeast}
use Rattle.isl_piece.specs.declared.row.Row.{Row}
use Rattle.isl_piece.specs.Row.{HoldsRow, IsWellFormed, IsRowUpTo, coef_at}

-- d has the sign of c, and no greater magnitude
pub record IsLessened (c d : ℤ) : Type 0 where
  pub above : pos 0 <ℤ c → pos 0 <ℤ d
  pub below : c <ℤ pos 0 → d <ℤ pos 0
  pub small : unsigned_abs d ≤ unsigned_abs c

-- the row holds at the same points with lesser coefficients
pub record IsTightened (columns : ℕ) (row tight : Row) : Type 0 where
  pub formed : IsWellFormed columns tight
  pub kind : tight.kind ≡ AtLeast
  pub same : (xs : List ℤ) → HoldsRow tight xs ↔ HoldsRow row xs
  pub coefs : (col : ℕ) → col < columns → IsLessened (coef_at row col) (coef_at tight col)
  pub up_to : (b : ℕ) → IsRowUpTo b row → IsRowUpTo b tight
