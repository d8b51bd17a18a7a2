-- public: sums of multiples of rows. (Pugh, the Omega test)
use Rattle.std.specs.Prelude.{ℤ, ◌+ℤ◌, ◌*ℤ◌}
use Rattle.isl_math.specs.Dot.{weighted_sum}
use Rattle.isl_piece.specs.declared.row.RowKind.{RowKind}
use Rattle.isl_piece.specs.declared.row.RowKind.TheVariants.{Zero, AtLeast, Divides, NotDivides}
use Rattle.isl_piece.specs.declared.row.Row.{Row}

-- the modulus of m times a row: a congruence's is multiplied too
abbrev pub scaled_divisor : RowKind → ℤ → ℤ → ℤ
scaled_divisor Zero m k = k
scaled_divisor AtLeast m k = k
scaled_divisor Divides m k = m *ℤ k
scaled_divisor NotDivides m k = m *ℤ k

-- m times a plus n times b, of the kind of a
abbrev pub combination : ℤ → Row → ℤ → Row → Row
combination m a n b =
    record { kind = a.kind; coefs = weighted_sum m a.coefs n b.coefs; constant = m *ℤ a.constant +ℤ n *ℤ b.constant; k = scaled_divisor a.kind m a.k }
