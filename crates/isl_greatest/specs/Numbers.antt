-- inner: the end of a bound, as a number.
use Rattle.std.specs.Prelude.{ℕ, ℤ, pos, neg_ℤ, ◌+ℤ◌, List, take}
use Rattle.isl_math.specs.Divide.{floor_div}
use Rattle.isl_math.specs.Dot.{dot}
use Rattle.isl_piece.specs.declared.row.Row.{Row}
use Rattle.isl_piece.specs.Row.{coef_at}

-- the greatest number behind those of q at which a bound from above holds
abbrev pub top_number : ℕ → Row → List ℤ → ℤ
top_number n r q = floor_div (dot (take n r.coefs) q +ℤ r.constant) (neg_ℤ (coef_at r n))
