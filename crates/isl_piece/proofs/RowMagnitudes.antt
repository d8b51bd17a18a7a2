-- How great the numbers of rows are: within a limit, and up to a bound.
use Rattle.std.proofs.Common.{◌≡◌, arith, ℕ, ◌-◌, ◌^◌, ◌≤◌, List}
use Rattle.std.specs.List.{All}
use Rattle.std.proofs.lemmas.List.Elements.{All-weaker}
use Rattle.isl_math.proofs.MagnitudeLaws.{IsUpTo}
use Rattle.isl_meter.specs.Gauge.{Gauge, IsWithin}
use Rattle.isl_meter.proofs.LimitLemmas.{within_up_to, up_to_within}
use Rattle.isl_piece.specs.declared.row.Row.{Row}
use Rattle.isl_piece.specs.Row.{IsRowWithin, IsRowUpTo}

-- ---- a limit is a bound
pub up_to_limit : (g : Gauge) (r : Row) → IsRowWithin g r → IsRowUpTo (2 ^ g.bits - 1) r
up_to_limit g r h = record {
  coefs = All-weaker (IsWithin g) (IsUpTo (2 ^ g.bits - 1)) (within_up_to g) r.coefs h.coefs;
  constant = within_up_to g r.constant h.constant;
  k = within_up_to g r.k h.k;
}

pub within_limit : (g : Gauge) (r : Row) → IsRowUpTo (2 ^ g.bits - 1) r → IsRowWithin g r
within_limit g r h = record {
  coefs = All-weaker (IsUpTo (2 ^ g.bits - 1)) (IsWithin g) (up_to_within g) r.coefs h.coefs;
  constant = up_to_within g r.constant h.constant;
  k = up_to_within g r.k h.k;
}

-- ---- a greater bound
pub row_more : (b c : ℕ) (r : Row) → b ≤ c → IsRowUpTo b r → IsRowUpTo c r
row_more b c r le h = record {
  coefs = All-weaker (IsUpTo b) (IsUpTo c) (λ z p. omega arith) r.coefs h.coefs;
  constant = let p = h.constant in omega arith;
  k = let p = h.k in omega arith;
}

pub rows_more : (b c : ℕ) (rows : List Row) → b ≤ c → All (IsRowUpTo b) rows → All (IsRowUpTo c) rows
rows_more b c rows le h = All-weaker (IsRowUpTo b) (IsRowUpTo c) (λ r p. row_more b c r le p) rows h

-- ---- the same limit at another time
pub row_within_kept : (g h : Gauge) (r : Row) → h.bits ≡ g.bits → IsRowWithin h r → IsRowWithin g r
row_within_kept g h r e w = record {
  coefs = All-weaker (IsWithin h) (IsWithin g) (λ z v. rw e at v) r.coefs w.coefs;
  constant = rw e at w.constant;
  k = rw e at w.k;
}

pub rows_within_kept : (g h : Gauge) (rows : List Row) → h.bits ≡ g.bits → All (IsRowWithin h) rows → All (IsRowWithin g) rows
rows_within_kept g h rows e w = All-weaker (IsRowWithin h) (IsRowWithin g) (λ r. row_within_kept g h r e) rows w
