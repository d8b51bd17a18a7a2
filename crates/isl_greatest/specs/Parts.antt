-- inner: rows that are taken apart, one by one.
use Rattle.std.specs.Prelude.{◌≡◌, ◌↔◌, ℕ, ℤ, pos, negsuc, ◌*ℤ◌, ◌<ℤ◌, neg_ℤ, Bool, true, false, List, All, map}
use Rattle.isl_math.specs.Divide.{Divides}
use Rattle.isl_math.specs.Dot.{scaled, weighted_sum}
use Rattle.isl_meter.specs.Gauge.{Gauge, IsWithin}
use Rattle.isl_piece.specs.declared.row.Row.{Row}
use Rattle.isl_piece.specs.Normal.{bound}
use Rattle.isl_piece.specs.Row.{HoldsRow, IsRowWithin}
use Rattle.isl_piece.specs.System.{HoldRows}
use Rattle.isl_greatest_law.specs.Case.{IsCongruence, IsOther, IsTop}
use Rattle.isl_greatest.specs.declared.case.Parts.{Parts}

-- a form as a bound: that it is at least 0, or at most
abbrev pub half_of : Bool → Row → Row
half_of false r = bound r.coefs r.constant
half_of true r = bound (weighted_sum (negsuc 0) r.coefs (pos 0) r.coefs) (neg_ℤ r.constant)

-- rows of both sorts, with their numbers within the limit
pub record AreParts (g : Gauge) (n : ℕ) (p : Parts) : Type 0 where
  pub tops : All (IsTop n) p.tops
  pub others : All (IsOther n) p.others
  pub tops_within : All (IsRowWithin g) p.tops
  pub others_within : All (IsRowWithin g) p.others

abbrev pub PartsHold : Parts → List ℤ → Type 0
PartsHold p point = HoldRows p.tops point × HoldRows p.others point

-- rows were put to these that say what the row says
pub record PushesRow (g : Gauge) (n : ℕ) (r : Row) (old new : Parts) : Type 0 where
  pub parts : AreParts g n old → AreParts g n new
  pub points : (point : List ℤ) → PartsHold new point ↔ (PartsHold old point × HoldsRow r point)

-- a number above 0 that all moduli of congruences divide
pub record IsPeriodOf (rows : List Row) (period : ℤ) : Type 0 where
  pub positive : pos 0 <ℤ period
  pub divides : All (λ r. IsCongruence r → Divides r.k period) rows
