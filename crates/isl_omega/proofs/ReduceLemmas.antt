-- Congruences with their numbers reduced, and Euclid's steps on two of them.
use Rattle.std.proofs.Common.{◌≡◌, ◌↔◌, ◌∙◌, refl, sym, ap, ℕ, zero, suc, ◌<◌, arith, ℤ, pos, neg_ℤ, ◌+ℤ◌, ◌-ℤ◌, ◌*ℤ◌, ◌≤ℤ◌, ◌<ℤ◌, List, [], ◌∷◌, length, get_or}
use Rattle.std.proofs.lemmas.List.Elements.{All-push, All-nil, All-cons}
use Rattle.isl_math.specs.Divide as divide
use Rattle.isl_math.specs.Divide.{floor_div, floor_mod, IsCongruent, IsGcdOf, IsRemainder}
use Rattle.isl_math.specs.Dot.{dot}
use Rattle.isl_math.proofs.Ring.{expand, linear}
use Rattle.isl_math.proofs.DivideLaws.{floor_split, floor_mod_bounds, floor_unique, IsCongruent-+ℤ, IsCongruent-floor_mod, IsCongruent_sym, Divides-same, Divides_scaled, exact_quotient, gcd_positive, IsRemainder-floor_mod, Divides-congruent}
use Rattle.isl_math.proofs.OrderLaws.{positive-*ℤ, *ℤ-≤ℤ, <ℤ-from_*ℤ, ≡-from_*ℤ, positive_not_zero}
use Rattle.isl_math.proofs.ColumnLaws.{length-weighted_sum}
use Rattle.isl_meter.specs.Gauge.{Gauge, IsWithin}
use Rattle.isl_piece.specs.Numbers.{reduced}
use Rattle.isl_piece.specs.declared.row.RowKind.{RowKind}
use Rattle.isl_piece.specs.declared.row.RowKind.TheVariants.{Zero, AtLeast, Divides, NotDivides}
use Rattle.isl_piece.specs.declared.row.Row.{Row}
use Rattle.isl_piece.specs.Row.{HoldsRow, HoldsValue, value_at, coef_at, HasModulus, IsWellFormed, IsRowWithin}
use Rattle.isl_piece.proofs.NumberLaws.{length-reduced, dot-reduced, All-IsRemainder-reduced}
use Rattle.isl_piece.proofs.NumberSteps.{reduced-take_more}
use Rattle.isl_piece.proofs.RowLemmas.{HasModulus-positive}
use Rattle.isl_piece.specs.Combine.{combination, scaled_divisor}
use Rattle.isl_omega.specs.Congruence.{reduced_row, IsReducedCongruence, SayTheSame, IsScaledTo, AreMerged, AreJoined}
use Rattle.isl_piece.proofs.CombineLaws.{value_at-combination, coef_at-combination}
use Rattle.isl_omega.proofs.CongruenceLemmas.{merge_step}
use Rattle.isl_omega.proofs.ImageLemmas.{free_of_zero}

pub ruleset reduce_steps = (reduced-take_more, All-push)

pub get_or-reduced : (k : ℤ) (xs : List ℤ) (i : ℕ) → i < length xs → get_or (reduced k xs) i (pos 0) ≡ floor_mod (get_or xs i (pos 0)) k
get_or-reduced k [] i h = absurd (omega arith)
get_or-reduced k (x ∷ xs) zero h = refl
get_or-reduced k (x ∷ xs) (suc i) h = get_or-reduced k xs i (omega arith)

-- ---- one congruence
-- a congruence holds where its modulus divides its value
pub holds_congruence : (r : Row) (k : ℤ) (xs : List ℤ) → r.kind ≡ Divides → r.k ≡ k → HoldsRow r xs ↔ divide.Divides k (value_at r xs)
holds_congruence r k xs is e = by r.kind r.k (value_at r xs) is e
  where
    by : (kind : RowKind) (l z : ℤ) → kind ≡ Divides → l ≡ k → HoldsValue kind l z ↔ divide.Divides k z
    by kind l z is e = rw (is, e) ((λ d. d), (λ d. d))

-- reduced, its value is the same up to a multiple of the modulus
pub value_reduced : (r : Row) (xs : List ℤ) → pos 0 <ℤ r.k → IsCongruent r.k (value_at r xs) (value_at (reduced_row r) xs)
value_reduced r xs p = IsCongruent-+ℤ r.k (dot r.coefs xs) (dot (reduced r.k r.coefs) xs) r.constant (floor_mod r.constant r.k) (dot-reduced r.k r.coefs xs p) (IsCongruent-floor_mod r.k r.constant p)

pub reduced_is : (columns : ℕ) (r : Row) → r.kind ≡ Divides → pos 0 <ℤ r.k → length r.coefs ≡ columns → IsReducedCongruence columns r.k (reduced_row r)
reduced_is columns r is p w = record {
  kind = is;
  modulus = refl;
  width = length-reduced r.k r.coefs ∙ w;
  coefs = All-IsRemainder-reduced r.k r.coefs p;
  constant = IsRemainder-floor_mod r.k r.constant p;
}

pub divisor_once : (kind : RowKind) (k : ℤ) → scaled_divisor kind (pos 1) k ≡ k
divisor_once Zero k = refl
divisor_once AtLeast k = refl
divisor_once Divides k = omega (arith, linear)
divisor_once NotDivides k = omega (arith, linear)

-- ---- Euclid's step
-- the remainder of p by q at the column
pub record IsRemainderRow (columns col : ℕ) (k : ℤ) (p q small : Row) : Type 0 where
  pub is_reduced : IsReducedCongruence columns k small
  pub same : SayTheSame p q q small
  pub smaller : coef_at small col <ℤ coef_at q col

pub remainder_row : (columns col : ℕ) (k t : ℤ) (p q rest small : Row) → IsReducedCongruence columns k p → IsReducedCongruence columns k q → pos 0 <ℤ k → col < columns → pos 0 <ℤ coef_at q col
    → t ≡ floor_div (coef_at p col) (coef_at q col) → rest ≡ combination (pos 1) p (neg_ℤ t) q → small ≡ reduced_row rest → IsRemainderRow columns col k p q small
remainder_row columns col k t p q rest small hp hq above l c e f g =
    let is : rest.kind ≡ Divides = ap (λ (r : Row). r.kind) f ∙ hp.kind in
    let same_divisor : rest.k ≡ k = ap (λ (r : Row). r.k) f ∙ divisor_once p.kind p.k ∙ hp.modulus in
    let widths : length p.coefs ≡ length q.coefs = hp.width ∙ sym hq.width in
    let wide : length rest.coefs ≡ columns = ap (λ (r : Row). length r.coefs) f ∙ length-weighted_sum (pos 1) p.coefs (neg_ℤ t) q.coefs widths ∙ hp.width in
    let positive : pos 0 <ℤ rest.k = rw same_divisor above in
    let small_kind : small.kind ≡ Divides = ap (λ (r : Row). r.kind) g ∙ is in
    let small_divisor : small.k ≡ k = ap (λ (r : Row). r.k) g ∙ same_divisor in
    record {
      is_reduced = rw g (at_divisor (reduced_row rest) rest.k same_divisor (reduced_is columns rest is positive wide));
      same = λ xs.
          let value : value_at rest xs ≡ pos 1 *ℤ value_at p xs +ℤ neg_ℤ t *ℤ value_at q xs = ap (λ (r : Row). value_at r xs) f ∙ value_at-combination (pos 1) p (neg_ℤ t) q xs widths in
          let left : value_at (reduced_row rest) xs ≡ value_at small xs = ap (λ (r : Row). value_at r xs) (sym g) in
          let congruent = near rest.k k (value_at rest xs) (value_at p xs) (value_at q xs) t (value_at (reduced_row rest) xs) (value_at small xs) same_divisor value left (value_reduced rest xs positive) in
          let step = merge_step k (value_at p xs) (value_at q xs) t (value_at small xs) congruent in
          let of_p = holds_congruence p k xs hp.kind hp.modulus in
          let of_q = holds_congruence q k xs hq.kind hq.modulus in
          let of_small = holds_congruence small k xs small_kind small_divisor in (
            (λ h. let d = step.0 (of_p.0 h.0, of_q.0 h.1) in (of_q.1 d.0, of_small.1 d.1)),
            (λ h. let d = step.1 (of_q.0 h.0, of_small.0 h.1) in (of_p.1 d.0, of_q.1 d.1)),
          );
      smaller =
          let inside_p : col < length p.coefs = (let w = hp.width in omega arith) in
          let inside : col < length rest.coefs = (let w = wide in omega arith) in
          let q_small = (hq.coefs col (pos 0) (let w = hq.width in omega arith)).small in
          let own : coef_at rest col ≡ pos 1 *ℤ coef_at p col +ℤ neg_ℤ t *ℤ coef_at q col = ap (λ (r : Row). coef_at r col) f ∙ coef_at-combination (pos 1) p (neg_ℤ t) q col widths inside_p in
          let read : coef_at small col ≡ floor_mod (coef_at rest col) rest.k = ap (λ (r : Row). coef_at r col) g ∙ get_or-reduced rest.k rest.coefs col inside in
          below k (coef_at p col) (coef_at q col) t (coef_at rest col) rest.k (coef_at small col) c q_small e own same_divisor read;
    }
  where
    at_divisor : (r : Row) (j : ℤ) → j ≡ k → IsReducedCongruence columns j r → IsReducedCongruence columns k r
    at_divisor r j e h = rw e at h

    near : (j k v p q t r s : ℤ) → j ≡ k → v ≡ pos 1 *ℤ p +ℤ neg_ℤ t *ℤ q → r ≡ s → IsCongruent j v r → divide.Divides k (p -ℤ t *ℤ q -ℤ s)
    near j k v p q t r s e f g h = rw e at (Divides-same j (v -ℤ r) (p -ℤ t *ℤ q -ℤ s) (let f' = simp expand at f in simp expand (omega (arith, linear))) h)

    below : (k p q t r j s : ℤ) → pos 0 <ℤ q → q <ℤ k → t ≡ floor_div p q → r ≡ pos 1 *ℤ p +ℤ neg_ℤ t *ℤ q → j ≡ k → s ≡ floor_mod r j → s <ℤ q
    below k p q t r j s above l e f g h =
        let split = floor_split p q above in
        let b = floor_mod_bounds p q above in
        let t_is = simp expand at (ap (λ w. q *ℤ w) e) in
        let f' = simp expand at f in
        let split' = simp expand at split in
        let left : r ≡ floor_mod p q = simp expand (omega (arith, linear)) in
        let once = (floor_unique (floor_mod p q) k (pos 0) (floor_mod p q) (omega (arith, linear)) b.0 (omega (arith, linear))).1 in
        let s_is : s ≡ floor_mod (floor_mod p q) k = h ∙ ap (λ w. floor_mod w j) left ∙ ap (λ w. floor_mod (floor_mod p q) w) g in
        omega (arith, linear)

-- ---- a multiple of a congruence
divisor_times : (kind : RowKind) (m k : ℤ) → kind ≡ Divides → scaled_divisor kind m k ≡ m *ℤ k
divisor_times kind m k e = rw e refl

pub scaled_positive : (columns : ℕ) (m : ℤ) (r scaled : Row) → pos 0 <ℤ m → r.kind ≡ Divides → IsWellFormed columns r → scaled ≡ combination m r (pos 0) r → pos 0 <ℤ scaled.k
scaled_positive columns m r scaled p is w e = rw (ap (λ (s : Row). s.k) e ∙ divisor_times r.kind m r.k is) (positive-*ℤ m r.k p (HasModulus-positive r.kind r.k w.modulus))

pub scaled_row : (columns : ℕ) (m : ℤ) (r scaled small : Row) → pos 0 <ℤ m → r.kind ≡ Divides → IsWellFormed columns r → scaled ≡ combination m r (pos 0) r → small ≡ reduced_row scaled → IsScaledTo columns (m *ℤ r.k) r small
scaled_row columns m r scaled small p is w e f =
    let kind : scaled.kind ≡ Divides = ap (λ (s : Row). s.kind) e ∙ is in
    let modulus : scaled.k ≡ m *ℤ r.k = ap (λ (s : Row). s.k) e ∙ divisor_times r.kind m r.k is in
    let wide : length scaled.coefs ≡ columns = ap (λ (s : Row). length s.coefs) e ∙ length-weighted_sum m r.coefs (pos 0) r.coefs refl ∙ w.width in
    let positive = scaled_positive columns m r scaled p is w e in
    let small_kind : small.kind ≡ Divides = ap (λ (s : Row). s.kind) f ∙ kind in
    let small_divisor : small.k ≡ m *ℤ r.k = ap (λ (s : Row). s.k) f ∙ modulus in
    record {
      is_reduced = rw f (at_divisor (reduced_row scaled) scaled.k modulus (reduced_is columns scaled kind positive wide));
      same = λ xs.
          let value : value_at scaled xs ≡ m *ℤ value_at r xs = ap (λ (s : Row). value_at s xs) e ∙ value_at-combination m r (pos 0) r xs refl ∙ alone (m *ℤ value_at r xs) (value_at r xs) in
          let left : value_at (reduced_row scaled) xs ≡ value_at small xs = ap (λ (s : Row). value_at s xs) (sym f) in
          let congruent = near scaled.k (m *ℤ r.k) (value_at scaled xs) (m *ℤ value_at r xs) (value_at (reduced_row scaled) xs) (value_at small xs) modulus value left (value_reduced scaled xs positive) in
          let scaling = Divides_scaled m r.k (value_at r xs) p in
          let of_r = holds_congruence r r.k xs is refl in
          let of_small = holds_congruence small (m *ℤ r.k) xs small_kind small_divisor in (
            (λ h. of_r.1 (scaling.0 (Divides-congruent (m *ℤ r.k) (value_at small xs) (m *ℤ value_at r xs) (IsCongruent_sym (m *ℤ r.k) (m *ℤ value_at r xs) (value_at small xs) congruent) (of_small.0 h)))),
            (λ h. of_small.1 (Divides-congruent (m *ℤ r.k) (m *ℤ value_at r xs) (value_at small xs) congruent (scaling.1 (of_r.0 h)))),
          );
    }
  where
    at_divisor : (s : Row) (j : ℤ) → j ≡ m *ℤ r.k → IsReducedCongruence columns j s → IsReducedCongruence columns (m *ℤ r.k) s
    at_divisor s j d h = rw d at h

    alone : (a b : ℤ) → a +ℤ pos 0 *ℤ b ≡ a
    alone a b = omega (arith, linear)

    near : (j k v w r s : ℤ) → j ≡ k → v ≡ w → r ≡ s → IsCongruent j v r → IsCongruent k w s
    near j k v w r s d e f h = rw d at (Divides-same j (v -ℤ r) (w -ℤ s) (omega (arith, linear)) h)

-- ---- two congruences of different divisors
-- what each is multiplied by, so that both have one modulus
pub record CommonParts (j k g m n : ℤ) : Type 0 where
  pub positive : pos 0 <ℤ g
  pub m_positive : pos 0 <ℤ m
  pub n_positive : pos 0 <ℤ n
  pub same : m *ℤ j ≡ n *ℤ k
  pub small : (m *ℤ j) ≤ℤ (j *ℤ k)

pub common_parts : (j k g m n : ℤ) → pos 0 <ℤ j → pos 0 <ℤ k → IsGcdOf j k g → m ≡ floor_div k g → n ≡ floor_div j g → CommonParts j k g m n
common_parts j k g m n p q h e f =
    let above = gcd_positive j k g (positive_not_zero j p) h in
    let k_is : g *ℤ m ≡ k = ap (λ w. g *ℤ w) e ∙ exact_quotient g k above h.second in
    let j_is : g *ℤ n ≡ j = ap (λ w. g *ℤ w) f ∙ exact_quotient g j above h.first in
    record {
      positive = above;
      m_positive = <ℤ-from_*ℤ g (pos 0) m (omega (arith, linear)) (omega (arith, linear));
      n_positive = <ℤ-from_*ℤ g (pos 0) n (omega (arith, linear)) (omega (arith, linear));
      same = ≡-from_*ℤ g (m *ℤ j) (n *ℤ k) (positive_not_zero g above) (crossed g m n j k k_is j_is);
      small = least g m j k above (<ℤ-from_*ℤ g (pos 0) m (omega (arith, linear)) (omega (arith, linear))) p k_is;
    }
  where
    crossed : (g m n j k : ℤ) → g *ℤ m ≡ k → g *ℤ n ≡ j → g *ℤ (m *ℤ j) ≡ g *ℤ (n *ℤ k)
    crossed g m n j k a b =
        let a' = simp expand at (ap (λ w. j *ℤ w) a) in
        let b' = simp expand at (ap (λ w. k *ℤ w) b) in
        simp expand (omega (arith, linear))

    least : (g m j k : ℤ) → pos 0 <ℤ g → pos 0 <ℤ m → pos 0 <ℤ j → g *ℤ m ≡ k → (m *ℤ j) ≤ℤ (j *ℤ k)
    least g m j k p q r a =
        let one = simp expand at (*ℤ-≤ℤ (m *ℤ j) (pos 1) g (let t = positive-*ℤ m j q r in omega (arith, linear)) (omega (arith, linear))) in
        let a' = simp expand at (ap (λ w. j *ℤ w) a) in
        simp expand (omega (arith, linear))

pub reduced_at : (columns : ℕ) (j k : ℤ) (r : Row) → j ≡ k → IsReducedCongruence columns j r → IsReducedCongruence columns k r
reduced_at columns j k r e h = rw e at h

pub reduced_well_formed : (columns : ℕ) (k : ℤ) (r : Row) → pos 0 <ℤ k → IsReducedCongruence columns k r → IsWellFormed columns r
reduced_well_formed columns k r p h = record { width = h.width; modulus = divides_divisor r.kind r.k h.kind (rw h.modulus p) }
  where
    divides_divisor : (kind : RowKind) (k : ℤ) → kind ≡ Divides → pos 0 <ℤ k → HasModulus kind k
    divides_divisor kind k e p = rw e p

pub joined_is : (columns col : ℕ) (m n : ℤ) (p q first second one other : Row) → pos 0 <ℤ first.k → m *ℤ p.k ≡ n *ℤ q.k → (m *ℤ p.k) ≤ℤ (p.k *ℤ q.k) → IsScaledTo columns (m *ℤ p.k) p first → IsScaledTo columns (n *ℤ q.k) q second
    → AreMerged columns col first.k first second one other → AreJoined columns col p q one other
joined_is columns col m n p q first second one other above e small hp hq a = record {
  is_reduced = reduced_at columns first.k one.k one (sym a.first_reduced.modulus) a.first_reduced;
  positive = rw a.first_reduced.modulus above;
  small = rw (a.first_reduced.modulus ∙ hp.is_reduced.modulus) small;
  well_formed = reduced_well_formed columns first.k other above a.second_reduced;
  free = free_of_zero other.kind other.k (coef_at other col) a.gone;
  same = λ xs. (
    (λ h. (a.same xs).0 ((hp.same xs).1 h.0, (hq.same xs).1 h.1)),
    (λ h. let back = (a.same xs).1 h in ((hp.same xs).0 back.0, (hq.same xs).0 back.1)),
  );
}

-- remainders by a modulus within the limit are within it
pub reduced_within : (g : Gauge) (columns : ℕ) (k : ℤ) (r : Row) → IsWithin g k → IsReducedCongruence columns k r → IsRowWithin g r
reduced_within g columns k r w h = record {
  coefs = λ i d l. let x = h.coefs i d l in by (get_or r.coefs i d) x.not_negative x.small;
  constant = by r.constant h.constant.not_negative h.constant.small;
  k = rw h.modulus w;
}
  where
    by : (z : ℤ) → pos 0 ≤ℤ z → z <ℤ k → IsWithin g z
    by z p q = omega (arith, linear)
