-- public: where elimination never passes the limit of 127 bits: small numbers, and at most one congruence on the column. (Pugh, the Omega test; the
-- bound is this project's own)
use Rattle.std.specs.Prelude.{◌≡◌, Bool, false, not, ℕ, ◌+◌, ◌*◌, ◌^◌, ◌<◌, ◌≤◌, ℤ, pos, List, All, filter, length, unsigned_abs, Result}
use Rattle.std.specs.Ordering.{int_eq}
use Rattle.isl_meter.specs.Gauge.{Gauge}
use Rattle.isl_meter.specs.declared.Cut.{Cut}
use Rattle.isl_omega.specs.Magnitude.{IsNoOverflow, IsRowUpToAt, given_magnitude, paired_magnitude, substituted_magnitude}
use Rattle.isl_piece.specs.declared.row.RowKind.{RowKind}
use Rattle.isl_piece.specs.declared.row.RowKind.TheVariants.{Zero, AtLeast, Divides, NotDivides}
use Rattle.isl_piece.specs.declared.row.Row.{Row}
use Rattle.isl_piece.specs.Row.{IsRowUpTo, coef_at}
use Rattle.isl_omega.specs.declared.shadow.Splinters.{Splinters}

-- each number of the rows, their coefficients, constants and moduli, is at most 2^30 in magnitude
abbrev pub HaveSmallNumbers : List Row → Type 0
HaveSmallNumbers rows = All (IsRowUpTo given_magnitude) rows

-- a row of this kind is a congruence that has the column, where c is its coefficient
abbrev pub has_congruence : RowKind → ℤ → Bool
has_congruence Zero c = false
has_congruence AtLeast c = false
has_congruence Divides c = not (int_eq c (pos 0))
has_congruence NotDivides c = not (int_eq c (pos 0))

-- the congruences that have the column, those that must not hold among them
abbrev pub congruences_on : ℕ → List Row → List Row
congruences_on col rows = filter (λ r. has_congruence r.kind (coef_at r col)) rows

-- at most one congruence has the column
abbrev pub HaveOneCongruence : List Row → ℕ → Type 0
HaveOneCongruence rows col = length (congruences_on col rows) ≤ 1

-- at 127 bits no number of such rows passes the limit
abbrev pub IsSpared : {A : Type 0} → Gauge → List Row → ℕ → Result A Cut → Type 0
IsSpared g rows col result = g.bits ≡ 127 → HaveSmallNumbers rows → HaveOneCongruence rows col → IsNoOverflow result

-- where each number of the rows is at most w in magnitude, and each coefficient at the column at most u, a limit with room for the sum of two
-- products of these is not passed
abbrev pub IsSparedAt : {A : Type 0} → Gauge → List Row → ℕ → Result A Cut → Type 0
IsSparedAt g rows col result = (u w : ℕ) → All (IsRowUpToAt col u w) rows → u * w + u * w < 2 ^ g.bits → IsNoOverflow result

-- ---- inside
-- a tail with numbers of at most 2^61, and a last value of at most 2^62
pub record AreSmallSplinters (tail : Splinters) : Type 0 where
  pub lower : IsRowUpTo substituted_magnitude tail.lower
  pub last : unsigned_abs tail.last ≤ paired_magnitude
