-- The progression of a congruence, and rows with it in the column's place.
use Rattle.std.proofs.Common.{◌≡◌, ◌↔◌, ◌∙◌, refl, sym, ap, ℕ, ◌-◌, ◌<◌, ◌≤◌, arith, ℤ, pos, neg_ℤ, ◌+ℤ◌, ◌-ℤ◌, ◌*ℤ◌, ◌≤ℤ◌, ◌<ℤ◌, List, length, get_or, set}
use Rattle.std.specs.List.{insert}
use Rattle.isl_math.specs.Divide as divide
use Rattle.isl_math.specs.Divide.{floor_div, floor_mod, IsGcdOf, IsInverse, IsCongruent}
use Rattle.isl_math.proofs.Ring.{expand, linear}
use Rattle.isl_math.proofs.OrderLaws.{*ℤ-≤ℤ, <ℤ-from_*ℤ, ≡-from_*ℤ, positive_not_zero}
use Rattle.isl_math.proofs.DivideLaws.{bezout, gcd_unique, IsCongruent-floor_mod, one-Divides, Divides-same, Divides-+ℤ, Divides-*ℤ, Divides-neg_ℤ, exact_quotient, gcd_positive}
use Rattle.std.proofs.lemmas.List.{length-set, get_or-set_same}
use Rattle.std.proofs.lemmas.List.Edits.{get_or-insert_at}
use Rattle.isl_math.specs.Dot.{dot, weighted_sum}
use Rattle.isl_math.proofs.DotLaws.{dot-set_left}
use Rattle.isl_math.proofs.ColumnLaws.{dot-weighted_sum, length-weighted_sum}
use Rattle.std.proofs.lemmas.List.Elements.{All-set}
use Rattle.isl_meter.specs.Gauge.{Gauge, IsWithin}
use Rattle.isl_piece.specs.Numbers.{reduced}
use Rattle.isl_piece.specs.declared.row.RowKind.TheVariants.{Zero, Divides}
use Rattle.isl_piece.specs.declared.row.Row.{Row}
use Rattle.isl_piece.specs.Row.{HoldsRow, IsWellFormed, IsRowWithin, coef_at}
use Rattle.isl_piece.proofs.NumberLaws.{dot-reduced, length-reduced}
use Rattle.isl_omega.specs.Column.{rest_at}
use Rattle.isl_omega.specs.Substitution.{AreProgressionParts, IsProgressionOf, offsets_of}
use Rattle.isl_omega.proofs.ColumnLemmas.{value_at-insert}
use Rattle.isl_omega.proofs.CongruenceLemmas.{Progression, progression_meets, progression_gives}
use Rattle.isl_omega.proofs.ReduceLemmas.{holds_congruence}
use Rattle.isl_piece.proofs.RowLemmas.{HasModulus-positive}

-- ---- the parts
gcd_swapped : (a b g : ℤ) → IsGcdOf a b g → IsGcdOf b a g
gcd_swapped a b g h = record { not_negative = h.not_negative; first = h.second; second = h.first; greatest = λ d p q. h.greatest d q p }

-- a coefficient and a divisor, each divided by their greatest common divisor, have no common factor
pub record AreCoprimeParts (c k g m n : ℤ) : Type 0 where
  pub positive : pos 0 <ℤ g
  pub m_positive : pos 0 <ℤ m
  pub m_small : m ≤ℤ k
  pub modulus : k ≡ g *ℤ m
  pub coefficient : c ≡ g *ℤ n
  pub coprime : IsGcdOf n m (pos 1)

pub coprime_parts : (c k g m n : ℤ) → pos 0 <ℤ k → IsGcdOf c k g → m ≡ floor_div k g → n ≡ floor_div c g → AreCoprimeParts c k g m n
coprime_parts c k g m n p h e f =
    let above = gcd_positive k c g (positive_not_zero k p) (gcd_swapped c k g h) in
    let k_is : g *ℤ m ≡ k = ap (λ w. g *ℤ w) e ∙ exact_quotient g k above h.second in
    let c_is : g *ℤ n ≡ c = ap (λ w. g *ℤ w) f ∙ exact_quotient g c above h.first in
    let m_above = <ℤ-from_*ℤ g (pos 0) m (omega (arith, linear)) (omega (arith, linear)) in
    let b = bezout c k in
    let same : b.gcd ≡ g = gcd_unique c k b.gcd g b.is_gcd h in
    let one : b.first *ℤ n +ℤ b.second *ℤ m ≡ pos 1 = ≡-from_*ℤ g (b.first *ℤ n +ℤ b.second *ℤ m) (pos 1) (positive_not_zero g above) (sums g m n c k b.first b.second b.gcd k_is c_is same b.sum) in
    record {
      positive = above;
      m_positive = m_above;
      m_small = let t = *ℤ-≤ℤ m (pos 1) g (omega (arith, linear)) (omega (arith, linear)) in least g m k k_is t;
      modulus = sym k_is;
      coefficient = sym c_is;
      coprime = record {
        not_negative = omega (arith, linear);
        first = one-Divides n;
        second = one-Divides m;
        greatest = λ d q r. Divides-same d (n *ℤ b.first +ℤ m *ℤ b.second) (pos 1) (turned b.first n b.second m one) (Divides-+ℤ d (n *ℤ b.first) (m *ℤ b.second) (Divides-*ℤ d n b.first q) (Divides-*ℤ d m b.second r));
      };
    }
  where
    sums : (g m n c k s t d : ℤ) → g *ℤ m ≡ k → g *ℤ n ≡ c → d ≡ g → d ≡ s *ℤ c +ℤ t *ℤ k → g *ℤ (s *ℤ n +ℤ t *ℤ m) ≡ g *ℤ pos 1
    sums g m n c k s t d a b e f =
        let a' = simp expand at (ap (λ w. t *ℤ w) a) in
        let b' = simp expand at (ap (λ w. s *ℤ w) b) in
        let f' = simp expand at f in
        simp expand (omega (arith, linear))

    least : (g m k : ℤ) → g *ℤ m ≡ k → (m *ℤ pos 1) ≤ℤ (m *ℤ g) → m ≤ℤ k
    least g m k a t = let a' = simp expand at a in let t' = simp expand at t in omega (arith, linear)

    turned : (s n t m : ℤ) → s *ℤ n +ℤ t *ℤ m ≡ pos 1 → n *ℤ s +ℤ m *ℤ t ≡ pos 1
    turned s n t m e = let e' = simp expand at e in simp expand (omega (arith, linear))

pub progression_parts : (c k g m n v d : ℤ) → AreCoprimeParts c k g m n → IsInverse n m v → d ≡ neg_ℤ v → AreProgressionParts c k g d
progression_parts c k g m n v d h i e = record {
  positive = h.positive;
  modulus = record { quotient = m; is = h.modulus };
  coefficient = record { quotient = n; is = h.coefficient };
  inverse = Divides-same m (neg_ℤ (n *ℤ v -ℤ pos 1)) (n *ℤ d +ℤ pos 1) (by n v d e) (Divides-neg_ℤ m (n *ℤ v -ℤ pos 1) i.inverse);
  small = let low = i.not_negative in let high = i.small in let top = h.m_small in omega (arith, linear);
}
  where
    by : (n v d : ℤ) → d ≡ neg_ℤ v → neg_ℤ (n *ℤ v -ℤ pos 1) ≡ n *ℤ d +ℤ pos 1
    by n v d e = let e' = simp expand at (ap (λ w. n *ℤ w) e) in simp expand (omega (arith, linear))

-- ---- the offsets
abbrev pub with_column : ℤ → Row → ℕ → ℤ → Row
with_column factor one col w = record { kind = Zero; coefs = set (reduced one.k (weighted_sum factor one.coefs (pos 0) one.coefs)) col w; constant = floor_mod (factor *ℤ one.constant) one.k; k = pos 1 }

-- what the offsets have beside the column is factor times what the congruence has there, up to a multiple of the modulus
offsets_beside : (columns col : ℕ) (one : Row) (factor w : ℤ) (point : List ℤ) → IsWellFormed columns one → pos 0 <ℤ one.k → col < columns → length point ≡ columns - 1
    → IsCongruent one.k (factor *ℤ rest_at one col point) (rest_at (with_column factor one col w) col point)
offsets_beside columns col one factor w point f p l n =
    let xs = insert point col (pos 0) in
    let inside : col ≤ length point = omega arith in
    let ys = weighted_sum factor one.coefs (pos 0) one.coefs in
    let hs = reduced one.k ys in
    let wide : length hs ≡ columns = length-reduced one.k ys ∙ length-weighted_sum factor one.coefs (pos 0) one.coefs refl ∙ f.width in
    let row = with_column factor one col w in
    let row_wide : col < length row.coefs = (let s = length-set hs col w in omega arith) in
    let own = value_at-insert one col point (pos 0) (let e = f.width in omega arith) inside in
    let moved = value_at-insert row col point (pos 0) row_wide inside in
    let written = dot-set_left hs xs col w (omega arith) in
    let nought = get_or-insert_at point col (pos 0) (pos 0) inside in
    let small = dot-reduced one.k ys xs p in
    let times = dot-weighted_sum factor one.coefs (pos 0) one.coefs xs refl in
    let constant = IsCongruent-floor_mod one.k (factor *ℤ one.constant) p in
    by one.k factor (coef_at one col) (rest_at one col point) (dot one.coefs xs) one.constant (coef_at row col) (rest_at row col point) (dot row.coefs xs) (dot hs xs) (dot ys xs) (floor_mod (factor *ℤ one.constant) one.k) (w -ℤ get_or hs col (pos 0)) (get_or xs col (pos 0))
    own moved written nought small times constant
  where
    by : (k d c f v e a h r s t m u z : ℤ) → v +ℤ e ≡ c *ℤ pos 0 +ℤ f → r +ℤ m ≡ a *ℤ pos 0 +ℤ h → r ≡ s +ℤ u *ℤ z → z ≡ pos 0 → IsCongruent k t s → t ≡ d *ℤ v +ℤ pos 0 *ℤ v → IsCongruent k (d *ℤ e) m → IsCongruent k (d *ℤ f) h
    by k d c f v e a h r s t m u z o q wr none sm ti co =
        let z' = ap (λ x. u *ℤ x) none in
        let o' = simp expand at (ap (λ x. d *ℤ x) o) in
        let q' = simp expand at q in
        let wr' = simp expand at wr in
        let ti' = simp expand at ti in
        let z'' = simp expand at z' in
        Divides-same k (t -ℤ s +ℤ (d *ℤ e -ℤ m)) (d *ℤ f -ℤ h) (simp expand (omega (arith, linear))) (Divides-+ℤ k (t -ℤ s) (d *ℤ e -ℤ m) sm co)

pub is_progression : (columns col : ℕ) (one : Row) (scale factor : ℤ) (offsets : Row) → one.kind ≡ Divides → IsWellFormed columns one → col < columns → AreProgressionParts (coef_at one col) one.k scale factor → offsets ≡ with_column factor one col (one.k -ℤ scale)
    → IsProgressionOf columns col one scale offsets
is_progression columns col one scale factor offsets is f l a e =
    let p = HasModulus-positive one.kind one.k f.modulus in
    let ys = weighted_sum factor one.coefs (pos 0) one.coefs in
    let hs = reduced one.k ys in
    let wide : length hs ≡ columns = length-reduced one.k ys ∙ length-weighted_sum factor one.coefs (pos 0) one.coefs refl ∙ f.width in
    rw e (record {
      positive = a.positive;
      divides_modulus = a.modulus;
      divides_coefficient = a.coefficient;
      width = length-set hs col (one.k -ℤ scale) ∙ wide;
      at_column = get_or-set_same hs col (one.k -ℤ scale) (pos 0) (omega arith);
      meets = λ point x n h. progression_meets one.k (coef_at one col) (rest_at one col point) scale factor (rest_at (with_column factor one col (one.k -ℤ scale)) col point) x (progression point n) ((holds point x n).0 h);
      gives = λ point y n h. let s = progression_gives one.k (coef_at one col) (rest_at one col point) scale factor (rest_at (with_column factor one col (one.k -ℤ scale)) col point) y (progression point n) h in (s.0, s.1, (holds point s.0 n).1 s.2);
    })
  where
    progression : (point : List ℤ) → length point ≡ columns - 1 → Progression one.k (coef_at one col) (rest_at one col point) scale factor (rest_at (with_column factor one col (one.k -ℤ scale)) col point)
    progression point n = record {
      modulus = a.modulus;
      coefficient = a.coefficient;
      inverse = a.inverse;
      offset = offsets_beside columns col one factor (one.k -ℤ scale) point f (HasModulus-positive one.kind one.k f.modulus) l n;
    }

    holds : (point : List ℤ) (x : ℤ) → length point ≡ columns - 1 → HoldsRow one (insert point col x) ↔ divide.Divides one.k (coef_at one col *ℤ x +ℤ rest_at one col point)
    holds point x n = let v = value_at-insert one col point x (let w = f.width in omega arith) (omega arith) in rw (← v) (holds_congruence one one.k (insert point col x) is refl)

-- ---- what the code puts together
pub offsets_wide : (columns : ℕ) (factor : ℤ) (one row : Row) → IsWellFormed columns one → row ≡ offsets_of factor one → length row.coefs ≡ columns
offsets_wide columns factor one row f e = ap (λ (r : Row). length r.coefs) e ∙ length-reduced one.k (weighted_sum factor one.coefs (pos 0) one.coefs) ∙ length-weighted_sum factor one.coefs (pos 0) one.coefs refl ∙ f.width

pub offsets_set : (factor w z : ℤ) (one row : Row) (col : ℕ) (coefs : List ℤ) → row ≡ offsets_of factor one → coefs ≡ set row.coefs col z → z ≡ w
    → (let s : Row = record { kind = row.kind; coefs = coefs; constant = row.constant; k = row.k } in s) ≡ with_column factor one col w
offsets_set factor w z one row col coefs e f g = rw (f, g, e) refl

pub set_within : (g : Gauge) (row : Row) (col : ℕ) (coefs : List ℤ) (z : ℤ) → IsRowWithin g row → IsWithin g z → coefs ≡ set row.coefs col z → IsRowWithin g (record { kind = row.kind; coefs = coefs; constant = row.constant; k = row.k })
set_within g row col coefs z w i e = record { coefs = rw e (All-set (IsWithin g) row.coefs col z i w.coefs); constant = w.constant; k = w.k }
