-- public: rows whose numbers are as small as they get: no congruence, and coefficients of 1, 0 and -1 alone.
use Rattle.std.specs.Prelude.{◌≢◌, ◌≤◌, All, unsigned_abs}
use Rattle.isl_piece.specs.declared.row.RowKind.TheVariants.{Divides}
use Rattle.isl_piece.specs.declared.row.Row.{Row}

pub record IsUnitRow (r : Row) : Type 0 where
  pub kind : r.kind ≢ Divides
  pub coefs : All (λ c. unsigned_abs c ≤ 1) r.coefs
