-- One column out of rows: what was pushed is what is left of them.
use Rattle.std.proofs.Common.{◌≡◌, ◌≢◌, ◌↔◌, arith, ℕ, zero, suc, ◌-◌, ◌<◌, ℤ, pos, ◌≤ℤ◌, ◌<ℤ◌, List, [], ◌∷◌, length, get_or}
use Rattle.std.specs.List.{All, insert}
use Rattle.std.proofs.lemmas.List.Elements.{All-head, All-tail, All-weaker}
use Rattle.isl_math.proofs.Ring.{linear}
use Rattle.isl_math.proofs.OrderLaws.{positive-*ℤ, product_le}
use Rattle.isl_math.proofs.ListLaws.{Any-first, Any-later}
use Rattle.isl_meter.specs.Gauge.{Gauge}
use Rattle.isl_piece.specs.declared.row.RowKind.TheVariants as kind
use Rattle.isl_piece.specs.declared.row.Row.{Row}
use Rattle.isl_piece.specs.Row.{HoldsRow, IsWellFormed, value_at, coef_at}
use Rattle.isl_omega.specs.Congruence.{product_of_divisors, period, product_of_periods}
use Rattle.isl_shadows.specs.Column.{HoldAtSome, IsEqualityAt}
use Rattle.isl_omega.specs.Equality.{HasEquality, IsSolvedBy}
use Rattle.isl_shadows.specs.Residue.{HasNumber, sides_units}
use Rattle.isl_omega.specs.Column.{IsProper}
use Rattle.isl_omega.specs.Sides.{IsLower, IsUpper, IsNotDivides, AreSidesOf, AreSided, on_side}
use Rattle.isl_omega.specs.Step.{IsStepOf}
use Rattle.isl_shadows.specs.Units.{product_of_moduli, elimination_units}
use Rattle.isl_omega.specs.declared.sides.Side.TheVariants.{Lower, Upper}
use Rattle.isl_omega.specs.declared.sides.Sides.{Sides}
use Rattle.isl_omega.proofs.PeriodLemmas.{period_short}
use Rattle.isl_piece.proofs.RowLemmas.{HasModulus-positive}
use Rattle.isl_omega.proofs.SideLemmas.{sides_hold, picked}
use Rattle.isl_shadows.proofs.UnitLemmas.{AreProducts, units_not_negative, same_lessened, moduli_products, step_cost}

-- ---- no congruence: the step leaves the sides as they are
own_periods : (g : Gauge) (columns col : ℕ) (rows : List Row) → All (IsNotDivides g columns col) rows → (pos 0 <ℤ product_of_periods col rows) × (product_of_periods col rows ≤ℤ product_of_divisors rows)
own_periods g columns col [] h = (omega (arith, linear), omega (arith, linear))
own_periods g columns col (r ∷ rows) h =
    let rest = own_periods g columns col rows (All-tail (IsNotDivides g columns col) r rows h) in
    let k = HasModulus-positive r.kind r.k (All-head (IsNotDivides g columns col) r rows h).proper.formed.modulus in
    let p = period_short (coef_at r col) r.k k in
    let a = rest.0 in (
      positive-*ℤ (period col r) (product_of_periods col rows) p.positive a,
      product_le (period col r) r.k (product_of_periods col rows) (product_of_divisors rows) (omega (arith, linear)) (omega (arith, linear)) p.small rest.1,
    )

pub step_none : (g : Gauge) (columns col : ℕ) (sides : Sides) → AreSided g columns col sides → sides.divides ≡ [] → IsStepOf g columns col sides sides
step_none g columns col sides s e = record {
  sided = s;
  divides = e;
  not_divides = omega arith;
  periods = (own_periods g columns col sides.not_divides s.not_divides).1;
  same = λ point n. ((λ a. a), (λ a. a));
  k = pos 1;
  positive = omega (arith, linear);
  small = rw e (omega (arith, linear));
  narrowed = record { lowers = same_lessened col sides.lowers; uppers = same_lessened col sides.uppers };
}

-- ---- the sides of rows
pub formed_of : (g : Gauge) (columns : ℕ) (rows : List Row) → All (IsProper g columns) rows → All (IsWellFormed columns) rows
formed_of g columns rows w = All-weaker (IsProper g columns) (IsWellFormed columns) (λ r p. p.formed) rows w

-- where some number meets the sides that the step left, some number makes the rows hold
pub sides_project : (g : Gauge) (columns : ℕ) (rows : List Row) (col : ℕ) (sides new : Sides) (point : List ℤ) → length point ≡ columns - 1 → AreSidesOf rows col sides → IsStepOf g columns col sides new → HasNumber new col point ↔ HoldAtSome rows col point
sides_project g columns rows col sides new point n s step =
    let same = step.same point n in (
      (λ h. let x = same.1 h in (x.0, (sides_hold rows col sides point x.0 s).1 x.1)),
      (λ h. same.0 (h.0, (sides_hold rows col sides point h.0 s).0 h.1)),
    )

-- and costs no more than the rows' bounds
pub sides_cost : (g : Gauge) (columns : ℕ) (rows : List Row) (col : ℕ) (sides new : Sides) → All (IsProper g columns) rows → AreSidesOf rows col sides → AreSided g columns col sides → IsStepOf g columns col sides new → sides_units col new ≤ℤ elimination_units rows col
sides_cost g columns rows col sides new w s sided step =
    let products : AreProducts (product_of_divisors sides.divides) (product_of_divisors sides.not_divides) (product_of_moduli col rows) = rw (s.divides, s.not_divides) (moduli_products columns col rows (formed_of g columns rows w)) in
    let cost = step_cost g columns col (product_of_moduli col rows) sides new (record { sided = sided; step = step; products = products }) in
    rw (s.lowers, s.uppers) at cost

-- the number of those units is not below 0
pub most_not_negative : (g : Gauge) (columns : ℕ) (rows : List Row) (col : ℕ) → All (IsProper g columns) rows → pos 0 ≤ℤ elimination_units rows col
most_not_negative g columns rows col w =
    units_not_negative g columns col rows (on_side Lower col rows) (on_side Upper col rows) (formed_of g columns rows w)
    (picked g columns col Lower rows (IsLower g columns col) (λ r p m. record { proper = p; kind = m.0; factor = m.1 }) w)
    (picked g columns col Upper rows (IsUpper g columns col) (λ r p m. record { proper = p; kind = m.0; factor = m.1 }) w)

-- ---- an equality
abbrev IsEqualityOn : ℕ → Row → Type 0
IsEqualityOn col r = (r.kind ≡ kind.Zero) × (coef_at r col ≢ pos 0)

pub equality_from : (col : ℕ) (rows : List Row) (at : ℕ) → IsEqualityAt col rows at → HasEquality col rows
equality_from col [] at is = absurd (let inside = is.0 in omega arith)
equality_from col (r ∷ rows) zero is = Any-first (IsEqualityOn col) r rows (is.1 r)
equality_from col (r ∷ rows) (suc at) is =
    Any-later (IsEqualityOn col) r rows (equality_from col rows at ((let inside = is.0 in omega arith), is.1))

pub solved_projects : (rows : List Row) (col at : ℕ) (fixed : Row) (point : List ℤ) → fixed.kind ≡ kind.Zero → at < length rows → fixed ≡ get_or rows at fixed → IsSolvedBy rows fixed col point ↔ HoldAtSome rows col point
solved_projects rows col at fixed point e l f = (
  (λ a. (a.0, a.2)),
  (λ a. (a.0, by fixed (insert point col a.0) e (rw (← f) at (a.1 at fixed l)), a.1)),
)
  where
    by : (r : Row) (xs : List ℤ) → r.kind ≡ kind.Zero → HoldsRow r xs → value_at r xs ≡ pos 0
    by r xs e h = rw e at h
