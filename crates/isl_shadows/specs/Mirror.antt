-- inner: bounds with the column negated: an x at the column becomes -x, so that lower bounds become upper ones. (Pugh, the Omega test)
use Rattle.std.specs.Prelude.{ℕ, ℤ, pos, neg_ℤ, ◌≤ℤ◌, ◌<ℤ◌, List, All, map, slice_set}
use Rattle.isl_piece.specs.declared.row.Row.{Row}
use Rattle.isl_piece.specs.Row.{coef_at}
use Rattle.isl_shadows.specs.Splinters.{splinter_total}
use Rattle.isl_omega.specs.declared.sides.Sides.{Sides}

-- the row with the coefficient at the column negated
abbrev pub mirrored_row : ℕ → Row → Row
mirrored_row col r = record { kind = r.kind; coefs = slice_set r.coefs col (neg_ℤ (coef_at r col)); constant = r.constant; k = r.k }

-- the bounds of both sides so
abbrev pub mirrored : ℕ → Sides → Sides
mirrored col sides = record {
  lowers = map (mirrored_row col) sides.uppers;
  uppers = map (mirrored_row col) sides.lowers;
  divides = sides.divides;
  not_divides = sides.not_divides;
  free = sides.free;
}

-- upper bounds, mirrored, ask for no more splinters than the lower ones do, where `factor` is no less than any factor of these
pub record AskForFewer (col : ℕ) (lowers uppers : List Row) : Type 0 where
  pub factor : ℤ
  pub positive : pos 0 <ℤ factor
  pub greatest : All (λ l. coef_at l col ≤ℤ factor) lowers
  pub fewer : (m : ℤ) → pos 0 <ℤ m → All (λ u. neg_ℤ (coef_at u col) ≤ℤ m) uppers
      → splinter_total (pos 0) factor col (map (mirrored_row col) uppers) ≤ℤ splinter_total (pos 0) m col lowers
