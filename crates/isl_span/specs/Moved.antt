-- public: rows that say of a point what others say of the point with 1 added at one column.
use Rattle.std.specs.Prelude.{ℕ, ◌+ℤ◌}
use Rattle.isl_piece.specs.declared.row.Row.{Row}
use Rattle.isl_piece.specs.Row.{coef_at}

abbrev pub moved_row : ℕ → Row → Row
moved_row column r = record { kind = r.kind; coefs = r.coefs; constant = r.constant +ℤ coef_at r column; k = r.k }
