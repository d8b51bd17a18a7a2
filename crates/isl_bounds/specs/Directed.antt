-- public: forms with a sign, as inequalities.
use Rattle.std.specs.Prelude.{ℤ, ◌*ℤ◌}
use Rattle.isl_math.specs.Dot.{scaled}
use Rattle.isl_math.specs.Order.{sign_of}
use Rattle.isl_piece.specs.declared.row.RowKind.TheVariants.{AtLeast}
use Rattle.isl_piece.specs.declared.row.Row.{Row}

-- the row's form times the sign of a number is at least 0
abbrev pub directed : ℤ → Row → Row
directed by r = record { kind = AtLeast; coefs = scaled (sign_of by) r.coefs; constant = sign_of by *ℤ r.constant; k = r.k }
