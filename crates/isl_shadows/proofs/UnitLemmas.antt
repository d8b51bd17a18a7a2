-- The units that elimination uses are at most those that the rows tell.
use Rattle.std.proofs.Common.{◌≡◌, ◌≢◌, ◌∙◌, refl, sym, arith, Bool, true, false, cond, ℕ, zero, suc, ◌*◌, ◌≤◌, ℤ, pos, negsuc, neg_ℤ, ◌+ℤ◌, ◌*ℤ◌, ◌≤ℤ◌, ◌<ℤ◌, List, [], ◌∷◌, length, get_or, unsigned_abs}
use Rattle.std.specs.Int.{int_max}
use Rattle.std.specs.Ordering.{int_eq}
use Rattle.std.specs.List.{All, AllZip}
use Rattle.std.proofs.lemmas.List.Elements.{length_all_zip, All-nil, All-cons, All-head, All-tail, All-weaker}
use Rattle.std.proofs.lemmas.Bool.{cond-false}
use Rattle.std.proofs.lemmas.Int.{clamps}
use Rattle.std.proofs.lemmas.Bool.Decides.{Decides-int_eq}
use Rattle.isl_math.specs.Divide as divide
use Rattle.isl_math.specs.Divide.{floor_mod}
use Rattle.isl_math.proofs.Ring.{expand, linear}
use Rattle.isl_math.proofs.OrderLaws.{*ℤ-≤ℤ, ≤ℤ-*ℤ, positive-*ℤ, not_negative-*ℤ, product_le, negative-*ℤ}
use Rattle.isl_math.proofs.DivideLaws.{mod-from_Divides, Divides-zero}
use Rattle.isl_meter.specs.Gauge.{Gauge, IsCutUpTo}
use Rattle.isl_meter.specs.declared.Cut.{Cut}
use Rattle.isl_meter.proofs.UnitLemmas.{cut_weaker}
use Rattle.isl_piece.specs.declared.row.RowKind.{RowKind}
use Rattle.isl_piece.specs.declared.row.RowKind.TheVariants as kind
use Rattle.isl_piece.specs.declared.row.Row.{Row}
use Rattle.isl_piece.specs.Row.{HasModulus, IsWellFormed, coef_at}
use Rattle.isl_shadows.specs.Splinters.{splinter_total}
use Rattle.isl_omega.specs.Congruence.{product_of_divisors, product_of_periods}
use Rattle.isl_shadows.specs.Residue.{splinter_bound, shadow_units, residue_units, sides_units, sides_units, IsPeriod, IsResidueOf}
use Rattle.isl_omega.specs.Shadow.{splinters}
use Rattle.isl_omega.specs.Sides.{IsLower, IsUpper, AreSided, on_side, side_of, side_of_kind, is_same, unless_multiple}
use Rattle.isl_omega.specs.Step.{HasFactorsUpTo, IsStepOf}
use Rattle.isl_omega.specs.Tighten.{IsLessened}
use Rattle.isl_shadows.specs.Units.{greatest_factor, counted_splinters, sum_of_splinters, all_splinters, pairs, modulus_of, product_of_moduli, units_of_bounds}
use Rattle.isl_omega.specs.declared.sides.Side.{Side}
use Rattle.isl_omega.specs.declared.sides.Side.TheVariants.{Lower, Upper, Divides, NotDivides, Free}
use Rattle.isl_omega.specs.declared.sides.Sides.{Sides}
use Rattle.isl_shadows.proofs.DarkShadowLemmas.{splinter_total_not_negative}
use Rattle.isl_omega.proofs.PeriodLemmas.{period_short, periods_positive}
use Rattle.isl_piece.proofs.RowLemmas.{HasModulus-positive}
use Rattle.isl_omega.proofs.SideLemmas.{side_means, unless_zero}
use Rattle.isl_omega.proofs.Splinters.{splinters_counted, splinters_not_negative, splinters_rise, neighbours_scaled}

-- ---- the greatest factor
pub greatest_bounds : (col : ℕ) (uppers : List Row) → All (λ u. neg_ℤ (coef_at u col) ≤ℤ greatest_factor col uppers) uppers
greatest_bounds col [] = All-nil (λ u. neg_ℤ (coef_at u col) ≤ℤ pos 0)
greatest_bounds col (u ∷ uppers) =
    let rest = greatest_bounds col uppers in
    let top = int_max (neg_ℤ (coef_at u col)) (greatest_factor col uppers) in
    All-cons (λ v. neg_ℤ (coef_at v col) ≤ℤ top) u uppers (first (neg_ℤ (coef_at u col)) (greatest_factor col uppers))
    (All-weaker (λ v. neg_ℤ (coef_at v col) ≤ℤ greatest_factor col uppers) (λ v. neg_ℤ (coef_at v col) ≤ℤ top) (λ v h. more (neg_ℤ (coef_at v col)) (neg_ℤ (coef_at u col)) (greatest_factor col uppers) h) uppers rest)
  where
    first : (a b : ℤ) → a ≤ℤ int_max a b
    first a b = omega (arith, linear, clamps)

    more : (x a b : ℤ) → x ≤ℤ b → x ≤ℤ int_max a b
    more x a b h = omega (arith, linear, clamps)

pub greatest_positive : (g : Gauge) (columns col : ℕ) (u : Row) (uppers : List Row) → All (IsUpper g columns col) (u ∷ uppers) → pos 0 <ℤ greatest_factor col (u ∷ uppers)
greatest_positive g columns col u uppers h = by (coef_at u col) (greatest_factor col uppers) (All-head (IsUpper g columns col) u uppers h).factor
  where
    by : (c b : ℤ) → c <ℤ pos 0 → pos 0 <ℤ int_max (neg_ℤ c) b
    by c b p = omega (arith, linear, clamps)

-- ---- the tails of a dark_shadow
pub bound_not_negative : (g : Gauge) (columns col : ℕ) (neighbours : ℤ) (lowers uppers : List Row) → pos 0 ≤ℤ neighbours
    → All (IsLower g columns col) lowers → All (IsUpper g columns col) uppers → pos 0 ≤ℤ splinter_bound neighbours col lowers uppers
bound_not_negative g columns col neighbours lowers [] q hl hu = omega (arith, linear)
bound_not_negative g columns col neighbours lowers (u ∷ uppers) q hl hu = splinter_total_not_negative g columns col neighbours (greatest_factor col (u ∷ uppers)) lowers q (greatest_positive g columns col u uppers hu) hl

-- with fewer neighbours than k they are no more than those of all factors times k
total_scaled : (g : Gauge) (columns col : ℕ) (neighbours k m : ℤ) (lowers : List Row) → neighbours <ℤ k → pos 0 <ℤ k → pos 0 <ℤ m
    → All (IsLower g columns col) lowers
    → splinter_total neighbours m col lowers ≤ℤ sum_of_splinters col k m lowers
total_scaled g columns col neighbours k m [] less p q h = omega (arith, linear)
total_scaled g columns col neighbours k m (l ∷ lowers) less p q h =
    let rest = total_scaled g columns col neighbours k m lowers less p q (All-tail (IsLower g columns col) l lowers h) in
    let own = neighbours_scaled (coef_at l col) m neighbours k (All-head (IsLower g columns col) l lowers h).factor q p less in
    let count = splinters_counted (coef_at l col *ℤ k) (m *ℤ k) (positive-*ℤ m k q p) in
    omega (arith, linear)

bound_scaled : (g : Gauge) (columns col : ℕ) (neighbours k : ℤ) (lowers uppers : List Row) → neighbours <ℤ k → pos 0 <ℤ k
    → All (IsLower g columns col) lowers → All (IsUpper g columns col) uppers
    → splinter_bound neighbours col lowers uppers ≤ℤ all_splinters col k lowers uppers
bound_scaled g columns col neighbours k lowers [] less p hl hu = omega (arith, linear)
bound_scaled g columns col neighbours k lowers (u ∷ uppers) less p hl hu =
    total_scaled g columns col neighbours k (greatest_factor col (u ∷ uppers)) lowers less p (greatest_positive g columns col u uppers hu) hl

-- ---- narrowed bounds
-- the upper factors, each at most k times the old one
narrowed_greatest : (g h : Gauge) (columns col : ℕ) (k : ℤ) (old new : List Row) → pos 0 <ℤ k → All (IsUpper g columns col) old → AllZip (λ r s. IsLessened (k *ℤ coef_at r col) (coef_at s col)) old new → greatest_factor col new ≤ℤ (k *ℤ greatest_factor col old)
narrowed_greatest g h columns col k [] [] p u z = omega (arith, linear)
narrowed_greatest g h columns col k [] (s ∷ new) p u z = absurd z
narrowed_greatest g h columns col k (r ∷ old) [] p u z = absurd z
narrowed_greatest g h columns col k (r ∷ old) (s ∷ new) p u z =
    let rest = narrowed_greatest g h columns col k old new p (All-tail (IsUpper g columns col) r old u) z.1 in
    let factor = (All-head (IsUpper g columns col) r old u).factor in
    by k (coef_at r col) (coef_at s col) (greatest_factor col old) (greatest_factor col new) p factor (negative-*ℤ k (coef_at r col) p factor) z.0 rest
  where
    by : (k c d m n : ℤ) → pos 0 <ℤ k → c <ℤ pos 0 → (k *ℤ c) <ℤ pos 0 → IsLessened (k *ℤ c) d → n ≤ℤ (k *ℤ m) → int_max (neg_ℤ d) n ≤ℤ (k *ℤ int_max (neg_ℤ c) m)
    by k c d m n p l q h e =
        let top = int_max (neg_ℤ c) m in
        let one = simp expand at (*ℤ-≤ℤ k (neg_ℤ c) top (omega (arith, linear)) (omega (arith, linear, clamps))) in
        let two = *ℤ-≤ℤ k m top (omega (arith, linear)) (omega (arith, linear, clamps)) in
        let small = h.small in
        let neg = h.below q in
        let less : neg_ℤ d ≤ℤ (k *ℤ top) = last (k *ℤ c) d (k *ℤ top) q neg small (omega (arith, linear)) in
        let other : n ≤ℤ (k *ℤ top) = omega (arith, linear) in
        omega (arith, linear, clamps)
      where
        last : (e d t : ℤ) → e <ℤ pos 0 → d <ℤ pos 0 → unsigned_abs d ≤ unsigned_abs e → neg_ℤ e ≤ℤ t → neg_ℤ d ≤ℤ t
        last e d t p q s h = omega (arith, linear)

-- one bound
counted_more : (x b y n r : ℤ) → pos 0 <ℤ x → x ≤ℤ (b *ℤ r) → pos 0 <ℤ y → y ≤ℤ (n *ℤ r) → splinters x y ≤ℤ counted_splinters (b *ℤ r) (n *ℤ r)
counted_more x b y n r p h q k =
    let c = splinters_counted (b *ℤ r) (n *ℤ r) (omega (arith, linear)) in
    let s = splinters_rise x (b *ℤ r) y (n *ℤ r) p h q k in
    omega (arith, linear)

-- a factor at most k times another one, and k j at most r
scaled_up : (k j r a b : ℤ) → pos 0 <ℤ k → pos 0 <ℤ j → (k *ℤ j) ≤ℤ r → pos 0 ≤ℤ b → a ≤ℤ (k *ℤ b) → (a *ℤ j) ≤ℤ (b *ℤ r)
scaled_up k j r a b p q l n h =
    let one = simp expand at (≤ℤ-*ℤ j a (k *ℤ b) (omega (arith, linear)) h) in
    let two = simp expand at (*ℤ-≤ℤ b (k *ℤ j) r n l) in
    simp expand (omega (arith, linear))

lessened_above : (k c d : ℤ) → pos 0 <ℤ k → pos 0 <ℤ c → IsLessened (k *ℤ c) d → (pos 0 <ℤ d) × (d ≤ℤ (k *ℤ c))
lessened_above k c d p q h =
    let t = positive-*ℤ k c p q in
    let a = h.above t in
    (a, by (k *ℤ c) d t a h.small)
  where
    by : (e d : ℤ) → pos 0 <ℤ e → pos 0 <ℤ d → unsigned_abs d ≤ unsigned_abs e → d ≤ℤ e
    by e d p q s = omega (arith, linear)

-- the splinters of narrowed bounds, without a neighbour
plain_lowers : (g : Gauge) (columns col : ℕ) (k r m n : ℤ) (old new : List Row) → pos 0 <ℤ k → k ≤ℤ r → pos 0 <ℤ m → pos 0 <ℤ n → m ≤ℤ (k *ℤ n) → All (IsLower g columns col) old → AllZip (λ a b. IsLessened (k *ℤ coef_at a col) (coef_at b col)) old new
    → splinter_total (pos 0) m col new ≤ℤ sum_of_splinters col r n old
plain_lowers g columns col k r m n [] [] p l q w e h z = omega (arith, linear)
plain_lowers g columns col k r m n [] (b ∷ new) p l q w e h z = absurd z
plain_lowers g columns col k r m n (a ∷ old) [] p l q w e h z = absurd z
plain_lowers g columns col k r m n (a ∷ old) (b ∷ new) p l q w e h z =
    let rest = plain_lowers g columns col k r m n old new p l q w e (All-tail (IsLower g columns col) a old h) z.1 in
    let factor = (All-head (IsLower g columns col) a old h).factor in
    let less = lessened_above k (coef_at a col) (coef_at b col) p factor z.0 in
    let first = counted_more (coef_at b col) (coef_at a col) m n r less.0 (once k r (coef_at b col) (coef_at a col) l factor less.1) q (once k r m n l w e) in
    omega (arith, linear)
  where
    once : (k r a b : ℤ) → k ≤ℤ r → pos 0 <ℤ b → a ≤ℤ (k *ℤ b) → a ≤ℤ (b *ℤ r)
    once k r a b l p h = let t = simp expand at (*ℤ-≤ℤ b k r (omega (arith, linear)) l) in let h' = simp expand at h in simp expand (omega (arith, linear))

-- what is counted of narrowed bounds for residues
counted_lowers : (g : Gauge) (columns col : ℕ) (k j r m n : ℤ) (old new : List Row) → pos 0 <ℤ k → pos 0 <ℤ j → (k *ℤ j) ≤ℤ r → pos 0 <ℤ m → pos 0 <ℤ n → m ≤ℤ (k *ℤ n) → All (IsLower g columns col) old → AllZip (λ a b. IsLessened (k *ℤ coef_at a col) (coef_at b col)) old new
    → sum_of_splinters col j m new ≤ℤ sum_of_splinters col r n old
counted_lowers g columns col k j r m n [] [] p o l q w e h z = omega (arith, linear)
counted_lowers g columns col k j r m n [] (b ∷ new) p o l q w e h z = absurd z
counted_lowers g columns col k j r m n (a ∷ old) [] p o l q w e h z = absurd z
counted_lowers g columns col k j r m n (a ∷ old) (b ∷ new) p o l q w e h z =
    let rest = counted_lowers g columns col k j r m n old new p o l q w e (All-tail (IsLower g columns col) a old h) z.1 in
    let factor = (All-head (IsLower g columns col) a old h).factor in
    let less = lessened_above k (coef_at a col) (coef_at b col) p factor z.0 in
    let first = counted_more (coef_at b col *ℤ j) (coef_at a col) (m *ℤ j) n r (positive-*ℤ (coef_at b col) j less.0 o) (scaled_up k j r (coef_at b col) (coef_at a col) p o l (omega (arith, linear)) less.1)
    (positive-*ℤ m j q o) (scaled_up k j r m n p o l (omega (arith, linear)) e) in
    let count = splinters_counted (coef_at b col *ℤ j) (m *ℤ j) (positive-*ℤ m j q o) in
    omega (arith, linear)

-- ---- narrowed sides
pub plain_narrowed : (g : Gauge) (columns col : ℕ) (k r : ℤ) (lowers uppers fewer lesser : List Row) → pos 0 <ℤ k → k ≤ℤ r → All (IsLower g columns col) lowers → All (IsUpper g columns col) uppers → All (IsUpper g columns col) lesser
    → AllZip (λ a b. IsLessened (k *ℤ coef_at a col) (coef_at b col)) lowers fewer
    → AllZip (λ a b. IsLessened (k *ℤ coef_at a col) (coef_at b col)) uppers lesser
    → splinter_bound (pos 0) col fewer lesser ≤ℤ all_splinters col r lowers uppers
plain_narrowed g columns col k r lowers [] fewer [] p l hl hu hn zl zu = omega (arith, linear)
plain_narrowed g columns col k r lowers [] fewer (v ∷ lesser) p l hl hu hn zl zu = absurd zu
plain_narrowed g columns col k r lowers (u ∷ uppers) fewer [] p l hl hu hn zl zu = absurd zu
plain_narrowed g columns col k r lowers (u ∷ uppers) fewer (v ∷ lesser) p l hl hu hn zl zu =
    plain_lowers g columns col k r (greatest_factor col (v ∷ lesser)) (greatest_factor col (u ∷ uppers)) lowers fewer p l (greatest_positive g columns col v lesser hn) (greatest_positive g columns col u uppers hu)
    (narrowed_greatest g g columns col k (u ∷ uppers) (v ∷ lesser) p hu zu) hl zl

pub counted_narrowed : (g : Gauge) (columns col : ℕ) (k j r : ℤ) (lowers uppers fewer lesser : List Row) → pos 0 <ℤ k → pos 0 <ℤ j → (k *ℤ j) ≤ℤ r → All (IsLower g columns col) lowers → All (IsUpper g columns col) uppers → All (IsUpper g columns col) lesser
    → AllZip (λ a b. IsLessened (k *ℤ coef_at a col) (coef_at b col)) lowers fewer → AllZip (λ a b. IsLessened (k *ℤ coef_at a col) (coef_at b col)) uppers lesser → all_splinters col j fewer lesser ≤ℤ all_splinters col r lowers uppers
counted_narrowed g columns col k j r lowers [] fewer [] p o l hl hu hn zl zu = omega (arith, linear)
counted_narrowed g columns col k j r lowers [] fewer (v ∷ lesser) p o l hl hu hn zl zu = absurd zu
counted_narrowed g columns col k j r lowers (u ∷ uppers) fewer [] p o l hl hu hn zl zu = absurd zu
counted_narrowed g columns col k j r lowers (u ∷ uppers) fewer (v ∷ lesser) p o l hl hu hn zl zu =
    counted_lowers g columns col k j r (greatest_factor col (v ∷ lesser)) (greatest_factor col (u ∷ uppers)) lowers fewer p o l (greatest_positive g columns col v lesser hn) (greatest_positive g columns col u uppers hu)
    (narrowed_greatest g g columns col k (u ∷ uppers) (v ∷ lesser) p hu zu) hl zl

sum_not_negative : (g : Gauge) (columns col : ℕ) (r m : ℤ) (lowers : List Row) → pos 0 <ℤ r → pos 0 <ℤ m → All (IsLower g columns col) lowers → pos 0 ≤ℤ sum_of_splinters col r m lowers
sum_not_negative g columns col r m [] p q h = omega (arith, linear)
sum_not_negative g columns col r m (a ∷ lowers) p q h =
    let factor = (All-head (IsLower g columns col) a lowers h).factor in
    let rest = sum_not_negative g columns col r m lowers p q (All-tail (IsLower g columns col) a lowers h) in
    let count = splinters_counted (coef_at a col *ℤ r) (m *ℤ r) (positive-*ℤ m r q p) in
    let one = splinters_not_negative (coef_at a col *ℤ r) (m *ℤ r) (positive-*ℤ (coef_at a col) r factor p) (positive-*ℤ m r q p) in
    omega (arith, linear)

pub all_splinters_not_negative : (g : Gauge) (columns col : ℕ) (r : ℤ) (lowers uppers : List Row) → pos 0 <ℤ r → All (IsLower g columns col) lowers → All (IsUpper g columns col) uppers → pos 0 ≤ℤ all_splinters col r lowers uppers
all_splinters_not_negative g columns col r lowers [] p hl hu = omega (arith, linear)
all_splinters_not_negative g columns col r lowers (u ∷ uppers) p hl hu = sum_not_negative g columns col r (greatest_factor col (u ∷ uppers)) lowers p (greatest_positive g columns col u uppers hu) hl

pairs_narrowed : (col : ℕ) (k : ℤ) (lowers uppers fewer lesser : List Row) → AllZip (λ a b. IsLessened (k *ℤ coef_at a col) (coef_at b col)) lowers fewer → AllZip (λ a b. IsLessened (k *ℤ coef_at a col) (coef_at b col)) uppers lesser → pairs fewer lesser ≡ pairs lowers uppers
pairs_narrowed col k lowers uppers fewer lesser zl zu =
    let R : Row → Row → Type 0 = λ a b. IsLessened (k *ℤ coef_at a col) (coef_at b col) in
    let a = length_all_zip R lowers fewer zl in
    let b = length_all_zip R uppers lesser zu in
    rw (← a, ← b) refl

-- as many pairs as before
pub pairs_kept : (col : ℕ) (k : ℤ) (old new : Sides) → HasFactorsUpTo col k old new → length new.lowers * length new.uppers ≡ length old.lowers * length old.uppers
pairs_kept col k old new n =
    let R : Row → Row → Type 0 = λ a b. IsLessened (k *ℤ coef_at a col) (coef_at b col) in
    let a = length_all_zip R old.lowers new.lowers n.lowers in
    let b = length_all_zip R old.uppers new.uppers n.uppers in
    rw (← a, ← b) refl

-- ---- one residue
pairs_not_negative : (lowers uppers : List Row) → pos 0 ≤ℤ pairs lowers uppers
pairs_not_negative lowers uppers = by (length lowers * length uppers)
  where
    by : (n : ℕ) → pos 0 ≤ℤ pos n
    by n = omega (arith, linear)

pub same_lessened : (col : ℕ) (rows : List Row) → AllZip (λ r s. IsLessened (pos 1 *ℤ coef_at r col) (coef_at s col)) rows rows
same_lessened col [] = tt
same_lessened col (r ∷ rows) = (by (coef_at r col), same_lessened col rows)
  where
    by : (c : ℤ) → IsLessened (pos 1 *ℤ c) c
    by c = record { above = λ h. omega (arith, linear); below = λ h. omega (arith, linear); small = (let e = once c in rw e (omega arith)) }
      where
        once : (c : ℤ) → pos 1 *ℤ c ≡ c
        once c = omega (arith, linear)

pub residue_units_positive : (g : Gauge) (columns col : ℕ) (p : ℤ) (s : Sides) → pos 0 <ℤ p → AreSided g columns col s → pos 1 ≤ℤ residue_units col p s
residue_units_positive g columns col p s q a =
    let pairs = pairs_not_negative s.lowers s.uppers in
    let more = all_splinters_not_negative g columns col p s.lowers s.uppers q a.lowers a.uppers in
    omega (arith, linear)

pub sides_units_most : (g : Gauge) (columns col : ℕ) (p : ℤ) (s : Sides) → AreSided g columns col s → IsPeriod col s.not_divides p
    → (p *ℤ residue_units col p s) ≤ℤ sides_units col s
sides_units_most g columns col p s a h =
    let most = product_of_periods col s.not_divides in
    let q = h.positive in
    let l = h.small in
    let one = residue_units_positive g columns col p s q a in
    let more = counted_narrowed g columns col (pos 1) p most s.lowers s.uppers s.lowers s.uppers (omega (arith, linear)) q (omega (arith, linear)) a.lowers a.uppers a.uppers (same_lessened col s.lowers) (same_lessened col s.uppers) in
    product_le p most (residue_units col p s) (residue_units col most s) (omega (arith, linear)) (omega (arith, linear)) l (omega (arith, linear))

pub residue_cost : (g : Gauge) (columns col : ℕ) (p t : ℤ) (old new : Sides) → pos 0 <ℤ p → AreSided g columns col old
    → IsResidueOf g columns col p t old new → (pos 1 +ℤ shadow_units (pos 0) col new) ≤ℤ residue_units col p old
residue_cost g columns col p t old new q s r =
    let n = r.narrowed in
    let same = pairs_narrowed col p old.lowers old.uppers new.lowers new.uppers n.lowers n.uppers in
    let few = plain_narrowed g columns col p p old.lowers old.uppers new.lowers new.uppers q (omega (arith, linear)) s.lowers s.uppers r.sided.uppers n.lowers n.uppers in
    omega (arith, linear)

-- ---- products of moduli
modulus_positive : (asks : RowKind) (k c : ℤ) → HasModulus asks k → pos 0 <ℤ modulus_of asks k c
modulus_positive kind.Zero k c h = omega (arith, linear)
modulus_positive kind.AtLeast k c h = omega (arith, linear)
modulus_positive kind.Divides k c h = by (int_eq c (pos 0))
  where
    by : (b : Bool) → pos 0 <ℤ cond b (pos 1) k
    by true = omega (arith, linear)
    by false = h
modulus_positive kind.NotDivides k c h = by (int_eq c (pos 0))
  where
    by : (b : Bool) → pos 0 <ℤ cond b (pos 1) k
    by true = omega (arith, linear)
    by false = h

occurs : (c k : ℤ) → c ≢ pos 0 → cond (int_eq c (pos 0)) (pos 1) k ≡ k
occurs c k n = cond-false (int_eq c (pos 0)) (pos 1) k (by (int_eq c (pos 0)) (Decides-int_eq c (pos 0)).0)
  where
    by : (b : Bool) → (b ≡ true → c ≡ pos 0) → b ≡ false
    by true f = absurd (n (f refl))
    by false f = refl

-- a row on the side of the congruences, or of those that must not divide, has its modulus for its modulus
modulus_divides : (asks : RowKind) (k c : ℤ) → HasModulus asks k → side_of_kind asks k c ≡ Divides → modulus_of asks k c ≡ k
modulus_divides kind.Zero k c h e = cc
modulus_divides kind.AtLeast k (pos zero) h e = cc
modulus_divides kind.AtLeast k (pos (suc c)) h e = cc
modulus_divides kind.AtLeast k (negsuc c) h e = cc
modulus_divides kind.Divides k (pos zero) h e = let f : Free ≡ Divides = sym (unless_zero Divides (floor_mod (pos 0) k) (mod-from_Divides k (pos 0) h (Divides-zero k))) ∙ e in cc
modulus_divides kind.Divides k (pos (suc c)) h e = occurs (pos (suc c)) k (omega (arith, linear))
modulus_divides kind.Divides k (negsuc c) h e = occurs (negsuc c) k (omega (arith, linear))
modulus_divides kind.NotDivides k c h e = absurd (by (floor_mod c k) e)
  where
    by : (z : ℤ) → unless_multiple NotDivides z ≡ Divides → ⊥
    by (pos zero) e = cc
    by (pos (suc z)) e = cc
    by (negsuc z) e = cc

modulus_not_divides : (asks : RowKind) (k c : ℤ) → asks ≡ kind.NotDivides → ¬ divide.Divides k c → modulus_of asks k c ≡ k
modulus_not_divides kind.Zero k c e n = cc
modulus_not_divides kind.AtLeast k c e n = cc
modulus_not_divides kind.Divides k c e n = cc
modulus_not_divides kind.NotDivides k (pos zero) e n = absurd (n (record { quotient = pos 0; is = omega (arith, linear) }))
modulus_not_divides kind.NotDivides k (pos (suc c)) e n = occurs (pos (suc c)) k (omega (arith, linear))
modulus_not_divides kind.NotDivides k (negsuc c) e n = occurs (negsuc c) k (omega (arith, linear))

-- the products of both sides are above 0, and together at most the product of all moduli
pub record AreProducts (a b r : ℤ) : Type 0 where
  pub first : pos 0 <ℤ a
  pub second : pos 0 <ℤ b
  pub small : (a *ℤ b) ≤ℤ r

others_more : (m n a b : ℤ) → pos 0 <ℤ m → AreProducts a b n → AreProducts a b (m *ℤ n)
others_more m n a b p h = record { first = h.first; second = h.second; small = (let q = positive-*ℤ a b h.first h.second in let s = h.small in let t = ≤ℤ-*ℤ n (pos 1) m (omega (arith, linear)) (omega (arith, linear)) in omega (arith, linear)) }

products_more : (s : Side) (r : Row) (m n : ℤ) (divides not_divides : List Row) → pos 0 <ℤ m → (s ≡ Divides → m ≡ r.k) → (s ≡ NotDivides → m ≡ r.k) → AreProducts (product_of_divisors divides) (product_of_divisors not_divides) n
    → AreProducts (product_of_divisors (cond (is_same Divides s) (r ∷ divides) divides)) (product_of_divisors (cond (is_same NotDivides s) (r ∷ not_divides) not_divides)) (m *ℤ n)
products_more Divides r m n divides not_divides p e f h = rw (← e refl) (by m n (product_of_divisors divides) (product_of_divisors not_divides) p h)
  where
    by : (m n a b : ℤ) → pos 0 <ℤ m → AreProducts a b n → AreProducts (m *ℤ a) b (m *ℤ n)
    by m n a b p h = record { first = positive-*ℤ m a p h.first; second = h.second; small = (let t = simp expand at (*ℤ-≤ℤ m (a *ℤ b) n (omega (arith, linear)) h.small) in simp expand (omega (arith, linear))) }
products_more NotDivides r m n divides not_divides p e f h = rw (← f refl) (by m n (product_of_divisors divides) (product_of_divisors not_divides) p h)
  where
    by : (m n a b : ℤ) → pos 0 <ℤ m → AreProducts a b n → AreProducts a (m *ℤ b) (m *ℤ n)
    by m n a b p h = record { first = h.first; second = positive-*ℤ m b p h.second; small = (let t = simp expand at (*ℤ-≤ℤ m (a *ℤ b) n (omega (arith, linear)) h.small) in simp expand (omega (arith, linear))) }
products_more Lower r m n divides not_divides p e f h = others_more m n (product_of_divisors divides) (product_of_divisors not_divides) p h
products_more Upper r m n divides not_divides p e f h = others_more m n (product_of_divisors divides) (product_of_divisors not_divides) p h
products_more Free r m n divides not_divides p e f h = others_more m n (product_of_divisors divides) (product_of_divisors not_divides) p h

pub moduli_products : (columns col : ℕ) (rows : List Row) → All (IsWellFormed columns) rows → AreProducts (product_of_divisors (on_side Divides col rows)) (product_of_divisors (on_side NotDivides col rows)) (product_of_moduli col rows)
moduli_products columns col [] h = record { first = omega (arith, linear); second = omega (arith, linear); small = omega (arith, linear) }
moduli_products columns col (r ∷ rows) h =
    let w = (All-head (IsWellFormed columns) r rows h).modulus in
    products_more (side_of col r) r (modulus_of r.kind r.k (coef_at r col)) (product_of_moduli col rows) (on_side Divides col rows) (on_side NotDivides col rows) (modulus_positive r.kind r.k (coef_at r col) w) (modulus_divides r.kind r.k (coef_at r col) w)
    (λ e. let m = not_divides_means r.kind r.k (coef_at r col) w e in modulus_not_divides r.kind r.k (coef_at r col) m.0 m.1) (moduli_products columns col rows (All-tail (IsWellFormed columns) r rows h))
  where
    not_divides_means : (asks : RowKind) (k c : ℤ) → HasModulus asks k → side_of_kind asks k c ≡ NotDivides → (asks ≡ kind.NotDivides) × (¬ divide.Divides k c)
    not_divides_means asks k c h e = rw e at (side_means asks k c h)

-- ---- all in all
at_least_once : (r p s z : ℤ) → pos 0 <ℤ r → pos 0 ≤ℤ p → pos 0 ≤ℤ s → z ≤ℤ (p +ℤ s) → z ≤ℤ (r *ℤ (pos 1 +ℤ p +ℤ s))
at_least_once r p s z q a b h = let t = ≤ℤ-*ℤ (pos 1 +ℤ p +ℤ s) (pos 1) r (omega (arith, linear)) (omega (arith, linear)) in omega (arith, linear)

-- what the step left costs no more than the bounds of the old sides with the product of their moduli
pub record IsStepped (g : Gauge) (columns col : ℕ) (r : ℤ) (old new : Sides) : Type 0 where
  pub sided : AreSided g columns col old
  pub step : IsStepOf g columns col old new
  pub products : AreProducts (product_of_divisors old.divides) (product_of_divisors old.not_divides) r

pub step_cost : (g : Gauge) (columns col : ℕ) (r : ℤ) (old new : Sides) → IsStepped g columns col r old new
    → sides_units col new ≤ℤ units_of_bounds col r old.lowers old.uppers
step_cost g columns col r old new s =
    let same = pairs_narrowed col s.step.k old.lowers old.uppers new.lowers new.uppers s.step.narrowed.lowers s.step.narrowed.uppers in
    let few = counted_narrowed g columns col s.step.k p r old.lowers old.uppers new.lowers new.uppers s.step.positive positive product s.sided.lowers s.sided.uppers s.step.sided.uppers s.step.narrowed.lowers s.step.narrowed.uppers in
    let old_pairs = pairs_not_negative old.lowers old.uppers in
    let own = all_splinters_not_negative g columns col p new.lowers new.uppers positive s.step.sided.lowers s.step.sided.uppers in
    let above = s.step.positive in
    let one = positive in
    let within = product in
    let least : p ≤ℤ r = (let t = ≤ℤ-*ℤ p (pos 1) s.step.k (omega (arith, linear)) (omega (arith, linear)) in omega (arith, linear)) in
    product_le p r (pos 1 +ℤ pairs new.lowers new.uppers +ℤ all_splinters col p new.lowers new.uppers) (pos 1 +ℤ pairs old.lowers old.uppers +ℤ all_splinters col r old.lowers old.uppers) (omega (arith, linear)) (omega (arith, linear)) least (omega (arith, linear))
  where
    a : ℤ
    a = product_of_divisors old.divides

    b : ℤ
    b = product_of_divisors old.not_divides

    p : ℤ
    p = product_of_periods col new.not_divides

    positive : pos 0 <ℤ p
    positive = periods_positive col new.not_divides (λ i d j. let q = get_or new.not_divides i d in let h = s.step.sided.not_divides i d j in (period_short (coef_at q col) q.k (HasModulus-positive q.kind q.k h.proper.formed.modulus)).positive)

    product : (s.step.k *ℤ p) ≤ℤ r
    product =
        let f = s.products.first in
        let above = positive in
        let t = product_le s.step.k a p b (omega (arith, linear)) (omega (arith, linear)) s.step.small s.step.periods in
        let u = s.products.small in
        omega (arith, linear)

pub sides_units_not_negative : (g : Gauge) (columns col : ℕ) (s : Sides) → AreSided g columns col s → pos 0 ≤ℤ sides_units col s
sides_units_not_negative g columns col s a =
    let p = periods_positive col s.not_divides (λ i d j. let q = get_or s.not_divides i d in let h = a.not_divides i d j in (period_short (coef_at q col) q.k (HasModulus-positive q.kind q.k h.proper.formed.modulus)).positive) in
    let x = residue_units_positive g columns col (product_of_periods col s.not_divides) s p a in
    not_negative-*ℤ (product_of_periods col s.not_divides) (residue_units col (product_of_periods col s.not_divides) s) (omega (arith, linear)) (omega (arith, linear))

pub moduli_positive : (columns col : ℕ) (rows : List Row) → All (IsWellFormed columns) rows → pos 0 <ℤ product_of_moduli col rows
moduli_positive columns col rows w =
    let m = moduli_products columns col rows w in
    let a = positive-*ℤ (product_of_divisors (on_side Divides col rows)) (product_of_divisors (on_side NotDivides col rows)) m.first m.second in
    let b = m.small in
    omega (arith, linear)

pub units_not_negative : (g : Gauge) (columns col : ℕ) (rows lowers uppers : List Row) → All (IsWellFormed columns) rows → All (IsLower g columns col) lowers → All (IsUpper g columns col) uppers → pos 0 ≤ℤ units_of_bounds col (product_of_moduli col rows) lowers uppers
units_not_negative g columns col rows lowers uppers w hl hu =
    let r = product_of_moduli col rows in
    let p = moduli_positive columns col rows w in
    let q = pairs_not_negative lowers uppers in
    let s = all_splinters_not_negative g columns col r lowers uppers p hl hu in
    not_negative-*ℤ r (pos 1 +ℤ pairs lowers uppers +ℤ all_splinters col r lowers uppers) (omega (arith, linear)) (omega (arith, linear))

-- the pairs alone are no more
pub pairs_cost : (g : Gauge) (columns col : ℕ) (rows lowers uppers : List Row) → All (IsWellFormed columns) rows → All (IsLower g columns col) lowers → All (IsUpper g columns col) uppers → pairs lowers uppers ≤ℤ units_of_bounds col (product_of_moduli col rows) lowers uppers
pairs_cost g columns col rows lowers uppers w hl hu =
    let r = product_of_moduli col rows in
    let p = moduli_positive columns col rows w in
    let s = all_splinters_not_negative g columns col r lowers uppers p hl hu in
    at_least_once r (pairs lowers uppers) (all_splinters col r lowers uppers) (pairs lowers uppers) p (pairs_not_negative lowers uppers) s (omega (arith, linear))

-- with fewer neighbours than the product of the periods, a dark shadow costs no more than residues do
pub shadow_in_sides : (g : Gauge) (columns col : ℕ) (neighbours : ℤ) (s : Sides) → AreSided g columns col s
    → neighbours <ℤ product_of_periods col s.not_divides
    → shadow_units neighbours col s ≤ℤ sides_units col s
shadow_in_sides g columns col neighbours s a less =
    let k = product_of_periods col s.not_divides in
    let p = periods_positive col s.not_divides (λ i d j. let q = get_or s.not_divides i d in let h = a.not_divides i d j in (period_short (coef_at q col) q.k (HasModulus-positive q.kind q.k h.proper.formed.modulus)).positive) in
    let most = bound_scaled g columns col neighbours k s.lowers s.uppers less p a.lowers a.uppers in
    at_least_once k (pairs s.lowers s.uppers) (all_splinters col k s.lowers s.uppers) (shadow_units neighbours col s) p (pairs_not_negative s.lowers s.uppers)
    (all_splinters_not_negative g columns col k s.lowers s.uppers p a.lowers a.uppers) (omega (arith, linear))

pub shadow_cut : (g h : Gauge) (columns col : ℕ) (neighbours : ℤ) (s : Sides) (cut : Cut) → pos 0 ≤ℤ neighbours → AreSided g columns col s
    → IsCutUpTo (pos (length s.lowers * length s.uppers)) g h cut → IsCutUpTo (shadow_units neighbours col s) g h cut
shadow_cut g h columns col neighbours s cut q a own =
    let more = bound_not_negative g columns col neighbours s.lowers s.uppers q a.lowers a.uppers in
    cut_weaker (pos (length s.lowers * length s.uppers)) (shadow_units neighbours col s) g h cut (omega (arith, linear)) own

-- the pairs alone are no more
pub pairs_first : (g : Gauge) (columns col : ℕ) (neighbours : ℤ) (s : Sides) → pos 0 ≤ℤ neighbours → AreSided g columns col s
    → pos (length s.lowers * length s.uppers) ≤ℤ shadow_units neighbours col s
pairs_first g columns col neighbours s q a =
    let more = bound_not_negative g columns col neighbours s.lowers s.uppers q a.lowers a.uppers in
    omega (arith, linear)
