-- Difference constraints stay such where a column cancels or is taken out, negated, and at other places; and how far their constants grow:
-- one bit for each column that goes.
use Rattle.std.proofs.Common.{◌≡◌, ◌≢◌, ◌⊎◌, inl, inr, refl, sym, ◌∙◌, subst, arith, ℕ, ◌+◌, ◌*◌, ◌<◌, ◌≤◌, ◌^◌, pow_mono, pow_pos}
use Rattle.std.proofs.Common.{ℤ, pos, negsuc, neg_ℤ, ◌<ℤ◌, ◌+ℤ◌, ◌-ℤ◌, ◌*ℤ◌, unsigned_abs, List, [], ◌∷◌, length, get_or}
use Rattle.std.specs.List.{All, remove}
use Rattle.std.proofs.lemmas.List.{get_or_default}
use Rattle.std.proofs.lemmas.List.Elements.{All-nil, All-cons}
use Rattle.std.proofs.lemmas.Nat.{pow_below}
use Rattle.isl_math.specs.Dot.{scaled}
use Rattle.isl_math.proofs.Ring.{expand, linear}
use Rattle.isl_meter.specs.Gauge.{Gauge, IsWithin}
use Rattle.isl_piece.specs.declared.row.RowKind.{RowKind}
use Rattle.isl_piece.specs.declared.row.RowKind.TheVariants as kinds
use Rattle.isl_piece.specs.declared.row.Row.{Row}
use Rattle.isl_piece.specs.Combine.{combination, scaled_divisor}
use Rattle.isl_piece.specs.Meet.{placed_row}
use Rattle.isl_piece.specs.Negation.{above, below, negation_of, halves_of, negated_form}
use Rattle.isl_piece.specs.Normal.{bound}
use Rattle.isl_piece.specs.Placed.{ArePlacesAmong}
use Rattle.isl_piece.specs.Row.{IsRowUpTo, IsRowWithin, coef_at}
use Rattle.isl_ledger.specs.Difference.{IsDifferenceRow}
use Rattle.isl_ledger.proofs.ComparisonLaws.{coefficient_small, comparison_opposite, comparison_cancelled, comparison_left}
use Rattle.isl_ledger.proofs.NormalDifferences.{one_more, bound_difference}
use Rattle.isl_ledger.proofs.PlacingLaws.{comparison_placed}

-- ---- a column cancels
sum_small : (b : ℕ) (m n c d : ℤ) → unsigned_abs c < 2 ^ b → unsigned_abs d < 2 ^ b → m ≡ pos 1 → unsigned_abs n ≤ 1
    → unsigned_abs (m *ℤ c +ℤ n *ℤ d) < 2 ^ (b + 1)
sum_small b m n c d small other one few = rw (one, one_more b) (elim (times n few) [
  | inl e ↦ rw e (omega (arith, linear))
  | inr f ↦ elim f [ inl e ↦ rw e (omega (arith, linear)) | inr e ↦ rw e (omega (arith, linear)) ]
])
  where
    times : (n : ℤ) → unsigned_abs n ≤ 1 → (n ≡ pos 1) ⊎ ((n ≡ negsuc 0) ⊎ (n ≡ pos 0))
    times n few = grind (arith, linear)

-- m times a difference constraint and n times another one, in which the column occurs, so that it cancels: m is 1, since it is at most the
-- magnitude of a coefficient. So with a lower and an upper bound, and with an equality
pub difference_cancelled : (b x : ℕ) (r other : Row) (m n : ℤ) → IsDifferenceRow b r → IsDifferenceRow b other
    → length r.coefs ≡ length other.coefs → x < length r.coefs → coef_at other x ≢ pos 0
    → pos 0 <ℤ m → unsigned_abs m ≤ unsigned_abs (coef_at other x)
    → m *ℤ coef_at r x +ℤ n *ℤ coef_at other x ≡ pos 0 → IsDifferenceRow (b + 1) (combination m r n other)
difference_cancelled b x r other m n h g long inside there positive most cancels =
    let own = coefficient_small r.coefs h.first h.second x h.compares inside in
    let pivot = coefficient_small other.coefs g.first g.second x g.compares (omega arith) in
    let one : m ≡ pos 1 = omega (arith, linear) in
    let few : unsigned_abs n ≤ 1 = taken m n (coef_at r x) (coef_at other x) one there own pivot cancels in
    let made =
    comparison_cancelled r.coefs other.coefs h.first h.second g.first g.second x m n h.compares g.compares long inside there one
    cancels in
    record {
      kind = h.kind;
      modulus = divisor r.kind h.kind m r.k ∙ h.modulus;
      first = made.0;
      second = made.1;
      compares = made.2;
      constant = sum_small b m n r.constant other.constant h.constant g.constant one few;
    }
  where
    divisor : (kind : RowKind) → (kind ≡ kinds.Zero) ⊎ (kind ≡ kinds.AtLeast) → (m k : ℤ) → scaled_divisor kind m k ≡ k
    divisor kind (inl e) m k = rw e refl
    divisor kind (inr e) m k = rw e refl

    taken : (m n u v : ℤ) → m ≡ pos 1 → v ≢ pos 0 → unsigned_abs u ≤ 1 → unsigned_abs v ≤ 1 → m *ℤ u +ℤ n *ℤ v ≡ pos 0 → unsigned_abs n ≤ 1
    taken m n u v one there own pivot cancels = elim (unit v there pivot) [
      | inl e ↦ (let c = rw (one, e) at cancels in omega (arith, linear))
      | inr e ↦ (let c = rw (one, e) at cancels in omega (arith, linear))
    ]
      where
        unit : (v : ℤ) → v ≢ pos 0 → unsigned_abs v ≤ 1 → (v ≡ pos 1) ⊎ (v ≡ negsuc 0)
        unit v there pivot = grind (arith, linear)

-- a lower and an upper bound on the column, as elimination adds them
pub difference_paired : (b x : ℕ) (lower upper : Row) → IsDifferenceRow b lower → IsDifferenceRow b upper
    → length lower.coefs ≡ length upper.coefs → x < length lower.coefs → coef_at upper x <ℤ pos 0
    → IsDifferenceRow (b + 1) (combination (neg_ℤ (coef_at upper x)) lower (coef_at lower x) upper)
difference_paired b x lower upper h g long inside under =
    difference_cancelled b x lower upper (neg_ℤ (coef_at upper x)) (coef_at lower x) h g long inside
    (not_zero (coef_at upper x) under) (omega (arith, linear)) (omega (arith, linear)) (crossed (coef_at upper x) (coef_at lower x))
  where
    not_zero : (z : ℤ) → z <ℤ pos 0 → z ≢ pos 0
    not_zero z low e = omega (arith, linear)

    crossed : (u l : ℤ) → neg_ℤ u *ℤ l +ℤ l *ℤ u ≡ pos 0
    crossed u l = simp expand (omega (arith, linear))

-- ---- a column is taken out
pub difference_left : (b col : ℕ) (r : Row) → IsDifferenceRow b r → col < length r.coefs
    → IsDifferenceRow b (record { kind = r.kind; coefs = remove r.coefs col; constant = r.constant; k = r.k })
difference_left b col r h inside =
    let left = comparison_left r.coefs h.first h.second col h.compares inside in
    record { kind = h.kind; modulus = h.modulus; first = left.0; second = left.1; compares = left.2; constant = h.constant }

-- ---- negation
-- the rows of which one holds where a difference constraint does not
pub differences_negated : (b : ℕ) (r : Row) → IsDifferenceRow b r → All (IsDifferenceRow (b + 1)) (negation_of r)
differences_negated b r h = elim h.kind [
  | inl e ↦ subst (λ kind. All (IsDifferenceRow (b + 1)) (negated_form kind r.coefs r.constant r.k)) (sym e)
      (All-cons (IsDifferenceRow (b + 1)) (above r.coefs r.constant) (below r.coefs r.constant ∷ []) over
      (All-cons (IsDifferenceRow (b + 1)) (below r.coefs r.constant) [] under (All-nil (IsDifferenceRow (b + 1)))))
  | inr e ↦ subst (λ kind. All (IsDifferenceRow (b + 1)) (negated_form kind r.coefs r.constant r.k)) (sym e)
      (All-cons (IsDifferenceRow (b + 1)) (below r.coefs r.constant) [] under (All-nil (IsDifferenceRow (b + 1))))
]
  where
    over : IsDifferenceRow (b + 1) (above r.coefs r.constant)
    over = bound_difference (b + 1) r.coefs (r.constant -ℤ pos 1) h.first h.second h.compares
        (let c = h.constant in let m = one_more b in omega (arith, linear))

    under : IsDifferenceRow (b + 1) (below r.coefs r.constant)
    under = bound_difference (b + 1) (scaled (negsuc 0) r.coefs) (neg_ℤ r.constant -ℤ pos 1) h.second h.first
        (comparison_opposite r.coefs h.first h.second h.compares) (let c = h.constant in let m = one_more b in omega (arith, linear))

-- the halves of an equality
pub differences_halved : (b : ℕ) (r : Row) → IsDifferenceRow b r → All (IsDifferenceRow b) (halves_of r)
differences_halved b r h =
    All-cons (IsDifferenceRow b) (bound r.coefs r.constant) (bound (scaled (negsuc 0) r.coefs) (neg_ℤ r.constant) ∷ [])
    (bound_difference b r.coefs r.constant h.first h.second h.compares h.constant)
    (All-cons (IsDifferenceRow b) (bound (scaled (negsuc 0) r.coefs) (neg_ℤ r.constant)) []
    (bound_difference b (scaled (negsuc 0) r.coefs) (neg_ℤ r.constant) h.second h.first
    (comparison_opposite r.coefs h.first h.second h.compares) (let c = h.constant in omega (arith, linear)))
    (All-nil (IsDifferenceRow b)))

-- ---- other places
pub difference_placed : (b columns : ℕ) (places : List ℕ) (r : Row) → length r.coefs ≡ length places → ArePlacesAmong columns places
    → IsDifferenceRow b r → IsDifferenceRow b (placed_row columns places r)
difference_placed b columns places r long among h =
    let made = comparison_placed columns places r.coefs long among h.first h.second h.compares in
    record { kind = h.kind; modulus = h.modulus; first = made.0; second = made.1; compares = made.2; constant = h.constant }

-- ---- within a limit
-- of at least as many bits as the constants have
pub difference_within : (g : Gauge) (b : ℕ) (r : Row) → 1 ≤ g.bits → b ≤ g.bits → IsDifferenceRow b r → IsRowWithin g r
difference_within g b r some room h = record {
  coefs = λ k d l.
      let small = coefficient_small r.coefs h.first h.second k h.compares l in
      let same = get_or_default r.coefs k d (pos 0) l in
      rw same (below_limit (get_or r.coefs k (pos 0)) small);
  constant = let c = h.constant in let m = pow_mono room in omega arith;
  k = rw h.modulus (below_limit (pos 1) (omega arith));
}
  where
    below_limit : (z : ℤ) → unsigned_abs z ≤ 1 → IsWithin g z
    below_limit z small = let m = pow_mono some in omega arith

-- the magnitudes that the clauses of sums ask for
pub difference_up_to : (b : ℕ) (r : Row) → IsDifferenceRow b r → IsRowUpTo (2 ^ b) r
difference_up_to b r h = record {
  coefs = λ k d l.
      let small = coefficient_small r.coefs h.first h.second k h.compares l in
      let same = get_or_default r.coefs k d (pos 0) l in
      rw same (one_fits (get_or r.coefs k (pos 0)) small);
  constant = let c = h.constant in omega arith;
  k = rw h.modulus (one_fits (pos 1) (omega arith));
}
  where
    one_fits : (z : ℤ) → unsigned_abs z ≤ 1 → unsigned_abs z ≤ 2 ^ b
    one_fits z small = let some = pow_pos b in omega arith

-- a sum of two rows, each taken once, fits where two bits more than the constants have are there
pub pair_fits : (b bits : ℕ) → b + 1 < bits → 1 * 2 ^ b + 1 * 2 ^ b < 2 ^ bits
pair_fits b bits room = let m = pow_below (b + 1) bits room in let e = one_more b in omega arith
