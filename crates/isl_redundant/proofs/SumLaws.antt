-- Sums of multiples of rows, and what they imply.
use Rattle.std.proofs.Common.{◌≡◌, ◌∙◌, sym, refl, ap, arith, ℕ, ◌≤◌, ℤ, pos, neg_ℤ, ◌+ℤ◌, ◌*ℤ◌, ◌≤ℤ◌, ◌<ℤ◌, List, [], ◌∷◌, length, pow_mono}
use Rattle.std.specs.Prelude.{replicate}
use Rattle.std.specs.List.{All}
use Rattle.std.proofs.lemmas.List.{length-replicate}
use Rattle.std.proofs.lemmas.List.Elements.{All-head, All-tail, All-replicate, All-weaker}
use Rattle.isl_math.specs.Dot.{dot}
use Rattle.isl_math.proofs.Ring.{expand, linear}
use Rattle.isl_math.proofs.DotLaws.{dot-zeros}
use Rattle.isl_math.proofs.OrderLaws.{at_least_scaled, not_negative-*ℤ}
use Rattle.isl_math.proofs.ColumnLaws.{length-weighted_sum}
use Rattle.isl_meter.specs.Gauge.{Gauge, IsWithin}
use Rattle.isl_meter.proofs.LimitLemmas.{IsWithin-zero, IsWithin-small}
use Rattle.isl_piece.specs.declared.row.Row.{Row}
use Rattle.isl_piece.specs.declared.row.RowKind.TheVariants.{Zero, AtLeast}
use Rattle.isl_piece.specs.Combine.{combination}
use Rattle.isl_piece.specs.Row.{HoldsRow, IsRowWithin, value_at}
use Rattle.isl_piece.specs.System.{HoldRows}
use Rattle.isl_piece.proofs.CombineLaws.{value_at-combination}
use Rattle.isl_redundant.specs.Redundant.{calculator, IsAtLeast, IsImplied, IsSumOf}

-- ---- parts of a sum
pub part_zero : (r : Row) (times : ℤ) → r.kind ≡ Zero → IsAtLeast r times
part_zero r times e point h = let z : value_at r point ≡ pos 0 = rw e at h in let w = ap (λ v. times *ℤ v) z in omega (arith, linear)

pub part_at_least : (r : Row) (times : ℤ) → r.kind ≡ AtLeast → pos 0 ≤ℤ times → IsAtLeast r times
part_at_least r times e p point h = let v : pos 0 ≤ℤ value_at r point = rw e at h in not_negative-*ℤ times (value_at r point) p v

pub ruleset part_steps = (part_zero, part_at_least)

-- ---- sums
pub sum_nothing : (columns : ℕ) (rows : List Row) (sum : Row) → sum.coefs ≡ replicate columns (pos 0) → sum.constant ≡ pos 0 → sum.k ≡ pos 1 → IsSumOf columns rows sum
sum_nothing columns rows sum e c k = record {
  width = ap length e ∙ length-replicate columns (pos 0);
  within = record {
    coefs = rw e (All-replicate (IsWithin calculator) columns (pos 0) (IsWithin-zero calculator));
    constant = rw c (IsWithin-zero calculator);
    k = rw k (IsWithin-small calculator (pos 1) (omega arith) (omega arith));
  };
  holds = λ point h. let d = ap (λ (cs : List ℤ). dot cs point) e ∙ dot-zeros columns point in omega (arith, linear);
}

pub sum_next : (columns : ℕ) (rows : List Row) (sum row new : Row) (times : ℤ) → IsSumOf columns rows sum → length row.coefs ≡ columns → IsAtLeast row times
    → ((point : List ℤ) → HoldRows rows point → HoldsRow row point) → new ≡ combination (pos 1) sum times row → IsRowWithin calculator new → IsSumOf columns rows new
sum_next columns rows sum row new times s w part implied e within = record {
  width = ap (λ (r : Row). length r.coefs) e ∙ length-weighted_sum (pos 1) sum.coefs times row.coefs same ∙ s.width;
  within = within;
  holds = λ point h.
      let value = ap (λ (r : Row). value_at r point) e ∙ value_at-combination (pos 1) sum times row point same in
      let first = s.holds point h in
      let second = part point (implied point h) in
      omega (arith, linear);
}
  where
    same : length sum.coefs ≡ length row.coefs
    same = s.width ∙ sym w

-- ---- what is implied
dot_zero : (cs xs : List ℤ) → All (λ c. c ≡ pos 0) cs → dot cs xs ≡ pos 0
dot_zero [] xs h = refl
dot_zero (c ∷ cs) [] h = refl
dot_zero (c ∷ cs) (x ∷ xs) h =
    let first = ap (λ w. w *ℤ x) (All-head (λ c. c ≡ pos 0) c cs h) in
    let rest = dot_zero cs xs (All-tail (λ c. c ≡ pos 0) c cs h) in
    omega (arith, linear)

below : (own v s c : ℤ) → c ≡ pos 1 *ℤ s +ℤ own *ℤ v → pos 0 ≤ℤ s → c ≤ℤ pos 0 → pos 0 ≤ℤ (neg_ℤ own *ℤ v)
below own v s c e p q = simp expand (omega (arith, linear))

pub implied_by : (columns : ℕ) (others : List Row) (sum row rest : Row) (own : ℤ) → IsSumOf columns others sum → length row.coefs ≡ columns → row.kind ≡ AtLeast → own <ℤ pos 0
    → rest ≡ combination (pos 1) sum own row → All (λ c. c ≡ pos 0) rest.coefs → rest.constant ≤ℤ pos 0 → IsImplied others row
implied_by columns others sum row rest own s w kind low e zeros constant point h =
    let value = ap (λ (r : Row). value_at r point) e ∙ value_at-combination (pos 1) sum own row point (s.width ∙ sym w) in
    let none = dot_zero rest.coefs point zeros in
    let first = s.holds point h in
    let equal : rest.constant ≡ pos 1 *ℤ value_at sum point +ℤ own *ℤ value_at row point = omega (arith, linear) in
    let scaled = below own (value_at row point) (value_at sum point) rest.constant equal first constant in
    let v = (at_least_scaled (neg_ℤ own) (value_at row point) (omega (arith, linear))).0 scaled in
    rw kind v

-- ---- what holds nowhere
pub nowhere_by : (columns : ℕ) (rows : List Row) (sum : Row) → IsSumOf columns rows sum → All (λ c. c ≡ pos 0) sum.coefs → sum.constant <ℤ pos 0
    → (point : List ℤ) → ¬ HoldRows rows point
nowhere_by columns rows sum s zeros low point h =
    let none = dot_zero sum.coefs point zeros in
    let first = s.holds point h in
    omega (arith, linear)

-- ---- numbers
pub within_calculator : (g : Gauge) (r : Row) → g.bits ≤ 127 → IsRowWithin g r → IsRowWithin calculator r
within_calculator g r few w = record {
  coefs = All-weaker (IsWithin g) (IsWithin calculator) number r.coefs w.coefs;
  constant = number r.constant w.constant;
  k = number r.k w.k;
}
  where
    number : (z : ℤ) → IsWithin g z → IsWithin calculator z
    number z small = let p = pow_mono few in omega (arith, small, p)

pub all_within_calculator : (g : Gauge) (rows : List Row) → g.bits ≤ 127 → All (IsRowWithin g) rows → All (IsRowWithin calculator) rows
all_within_calculator g rows few w = All-weaker (IsRowWithin g) (IsRowWithin calculator) (λ r. within_calculator g r few) rows w

-- ---- the meter of a sum
pub row_at : (g : Gauge) (r : Row) → g ≡ calculator → IsRowWithin calculator r → IsRowWithin g r
row_at g r e w = rw e w

pub row_from : (g : Gauge) (r : Row) → g ≡ calculator → IsRowWithin g r → IsRowWithin calculator r
row_from g r e w = rw e at w

pub one_at : (g : Gauge) → g ≡ calculator → IsWithin g (pos 1)
one_at g e = rw e (IsWithin-small calculator (pos 1) (omega arith) (omega arith))

pub ruleset meter_steps = (row_at, row_from, one_at)
