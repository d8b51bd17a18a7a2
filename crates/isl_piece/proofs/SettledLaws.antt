-- A normal row is its own normal form.
use Rattle.std.proofs.Common.{◌≡◌, ◌≢◌, inl, inr, refl, sym, ap, ◌∙◌, arith, ℤ, pos, neg_ℤ, ◌*ℤ◌, ◌<ℤ◌, List, ◌∷◌, true, false}
use Rattle.std.specs.List.{All}
use Rattle.std.specs.Cmp.{int_cmp_total}
use Rattle.std.specs.Cmp.Lexicographic.{slice_cmp, lists_total}
use Rattle.std.specs.Ordering.{int_cmp, is_lt, ordering_reverse}
use Rattle.std.specs.declared.cmp.Ordering.{Ordering}
use Rattle.std.specs.declared.cmp.Ordering.TheVariants.{Less, Equal, Greater}
use Rattle.std.proofs.lemmas.Bool.{cases_Bool, cond-true, cond-false}
use Rattle.std.proofs.lemmas.List.Elements.{All-cons, All-head, All-tail}
use Rattle.isl_math.specs.Divide as divide
use Rattle.isl_math.specs.Divide.{floor_div, floor_mod, IsRemainder}
use Rattle.isl_math.specs.Dot.{scaled}
use Rattle.isl_math.specs.Gcd.{content}
use Rattle.isl_math.specs.Order.{sign_of}
use Rattle.isl_math.proofs.Ring.{linear}
use Rattle.isl_math.proofs.DivideLaws.{one-Divides, IsRemainder-floor_mod, floor_mod-from_IsRemainder}
use Rattle.isl_math.proofs.GcdLaws.{IsContentOf-content}
use Rattle.isl_piece.specs.declared.row.RowKind.{RowKind}
use Rattle.isl_piece.specs.declared.row.RowKind.TheVariants.{Zero, AtLeast, Divides, NotDivides}
use Rattle.isl_piece.specs.declared.row.Row.{Row}
use Rattle.isl_piece.specs.Normal.{Verdict, Always, Never, Kept}
use Rattle.isl_piece.specs.Numbers.{divided, reduced, opposite, lead}
use Rattle.isl_piece.specs.Row.{HasModulus}
use Rattle.isl_piece.specs.Normal.{normal_zero, normal_at_least, normal_divides, normal_form, normal_row, negated, upright, bound, congruence, lesser, opposite_row, numbers_of}
use Rattle.isl_piece.proofs.NumberLaws.{All-IsRemainder-reduced, All-IsRemainder-opposite, All-IsRemainder-divided, IsRemainder-divided, positive-divided, reduced_reduced, opposite_opposite, opposite_twice, divided_one, quotient_one}
use Rattle.isl_piece.proofs.ContentLaws.{content_is, IsContentOf-like, IsContentOf-divided, content-divided, content-scaled, lead_not_zero, lead-signed, sign_of_positive, sign_squared, scaled_one, common_opposite}
use Rattle.isl_piece.proofs.NormalCases.{common_part, common_part-positive, divided_congruence, normal_zero_by, normal_zero-kept, normal_at_least_by, normal_at_least-kept, normal_divides_by, normal_divides-kept, lesser_by}
use Rattle.isl_piece.proofs.ShapeLaws.{IfKept, IfKept-weaker}

one_not_zero : (z : ℤ) → z ≡ pos 1 → z ≢ pos 0
one_not_zero z e f = omega (arith, linear)

-- ---- a form that is 0
upright_is : (cs : List ℤ) (c : ℤ) → sign_of (lead cs) ≡ pos 1 → upright cs c ≡ (let r : Row = record { kind = Zero; coefs = cs; constant = c; k = pos 1 } in r)
upright_is cs c e = by (sign_of (lead cs)) e
  where
    by : (s : ℤ) → s ≡ pos 1 → (let r : Row = record { kind = Zero; coefs = scaled s cs; constant = s *ℤ c; k = pos 1 } in r) ≡ (let r : Row = record { kind = Zero; coefs = cs; constant = c; k = pos 1 } in r)
    by s e = let f : scaled s cs ≡ cs = ap (λ t. scaled t cs) e ∙ scaled_one cs in let g : s *ℤ c ≡ c = ap (λ t. t *ℤ c) e ∙ omega (arith, linear) in cc

zero_settled : (cs : List ℤ) (c : ℤ) → content cs ≡ pos 1 → sign_of (lead cs) ≡ pos 1 → normal_zero cs c ≡ Kept (record { kind = Zero; coefs = cs; constant = c; k = pos 1 })
zero_settled cs c e f =
    normal_zero-kept cs c (one_not_zero (content cs) e) (rw e (one-Divides c))
    ∙ rw (e, divided_one cs, quotient_one c) (ap Kept (upright_is cs c f))

settled_zero : (cs : List ℤ) (c : ℤ) → IfKept (λ r. normal_row r ≡ Kept r) (normal_zero cs c)
settled_zero cs c = normal_zero_by (IfKept (λ r. normal_row r ≡ Kept r)) cs c (λ e f. tt) (λ e f. tt) (λ e f. tt) kept
  where
    kept : content cs ≢ pos 0 → divide.Divides (content cs) c → normal_row (upright (divided (content cs) cs) (floor_div c (content cs))) ≡ Kept (upright (divided (content cs) cs) (floor_div c (content cs)))
    kept n d =
        let ds = divided (content cs) cs in
        let q = floor_div c (content cs) in
        let one : content ds ≡ pos 1 = content-divided cs n in
        let some : lead ds ≢ pos 0 = lead_not_zero ds (one_not_zero (content ds) one) in
        zero_settled (scaled (sign_of (lead ds)) ds) (sign_of (lead ds) *ℤ q)
        (content-scaled (sign_of (lead ds)) ds (sign_squared (lead ds) some) ∙ one)
        (sign_of_positive (lead (scaled (sign_of (lead ds)) ds)) (lead-signed ds some))

-- ---- a form that is at least 0
settled_at_least : (cs : List ℤ) (c : ℤ) → IfKept (λ r. normal_row r ≡ Kept r) (normal_at_least cs c)
settled_at_least cs c = normal_at_least_by (IfKept (λ r. normal_row r ≡ Kept r)) cs c (λ e f. tt) (λ e f. tt)
    (λ n. by (divided (content cs) cs) (floor_div c (content cs)) (content-divided cs n))
  where
    by : (ds : List ℤ) (q : ℤ) → content ds ≡ pos 1 → normal_at_least ds q ≡ Kept (bound ds q)
    by ds q e = normal_at_least-kept ds q (one_not_zero (content ds) e) ∙ rw (e, divided_one ds, quotient_one q) refl

-- ---- congruences
-- the numbers are from 0 to k - 1, and have no divisor in common with k, which is not 1
pub record IsRemainderRow (r : Row) : Type 0 where
  pub positive : pos 0 <ℤ r.k
  pub large : r.k ≢ pos 1
  pub coefs : All (IsRemainder r.k) r.coefs
  pub constant : IsRemainder r.k r.constant
  pub common : content (r.k ∷ r.coefs) ≡ pos 1

opposite_of_opposite : (r : Row) → IsRemainderRow r → opposite_row (opposite_row r) ≡ r
opposite_of_opposite r h = by r.kind r.coefs r.constant r.k _ _ (opposite_opposite r.k r.coefs h.positive h.coefs) (opposite_twice r.k r.constant h.positive h.constant)
  where
    by : (kind : RowKind) (cs : List ℤ) (c k : ℤ) (ds : List ℤ) (d : ℤ) → ds ≡ cs → d ≡ c → (let r : Row = record { kind = kind; coefs = ds; constant = d; k = k } in r) ≡ (let r : Row = record { kind = kind; coefs = cs; constant = c; k = k } in r)
    by kind cs c k ds d e f = cc

content-opposite : (k : ℤ) (xs : List ℤ) → pos 0 <ℤ k → All (IsRemainder k) xs → content (k ∷ opposite k xs) ≡ content (k ∷ xs)
content-opposite k xs p h = content_is (k ∷ opposite k xs) (content (k ∷ xs)) (IsContentOf-like (k ∷ xs) (k ∷ opposite k xs) (content (k ∷ xs)) forth back (IsContentOf-content (k ∷ xs)))
  where
    forth : (d : ℤ) → All (divide.Divides d) (k ∷ xs) → All (divide.Divides d) (k ∷ opposite k xs)
    forth d g =
        let dk = All-head (divide.Divides d) k xs g in
        All-cons (divide.Divides d) k (opposite k xs) dk (common_opposite d k xs p dk (All-tail (divide.Divides d) k xs g))

    back : (d : ℤ) → All (divide.Divides d) (k ∷ opposite k xs) → All (divide.Divides d) (k ∷ xs)
    back d g =
        let dk = All-head (divide.Divides d) k (opposite k xs) g in
        All-cons (divide.Divides d) k xs dk (rw (← opposite_opposite k xs p h) (common_opposite d k (opposite k xs) p dk (All-tail (divide.Divides d) k (opposite k xs) g)))

reduced_opposite : (r : Row) → IsRemainderRow r → IsRemainderRow (opposite_row r)
reduced_opposite r h = record {
  positive = h.positive;
  large = h.large;
  coefs = All-IsRemainder-opposite r.k r.coefs h.positive;
  constant = IsRemainder-floor_mod r.k (neg_ℤ r.constant) h.positive;
  common = content-opposite r.k r.coefs h.positive h.coefs ∙ h.common;
}

reduced_lesser : (r : Row) → IsRemainderRow r → IsRemainderRow (lesser r)
reduced_lesser r h = lesser_by IsRemainderRow r h (reduced_opposite r h)

-- the lesser of a congruence and its opposite is less than its own opposite
lesser_lesser : (r : Row) → IsRemainderRow r → lesser (lesser r) ≡ lesser r
lesser_lesser r h = elim (cases_Bool (is_lt (slice_cmp int_cmp (numbers_of (opposite_row r)) (numbers_of r)))) [
  | inl t ↦
      let o = opposite_row r in
      let is : lesser r ≡ o = cond-true (is_lt (slice_cmp int_cmp (numbers_of o) (numbers_of r))) o r t in
      let stays : lesser o ≡ o = opposite_stays o r (opposite_of_opposite r h) (not_both (numbers_of o) (numbers_of r) t) in
      ap lesser is ∙ stays ∙ sym is
  | inr f ↦
      let is : lesser r ≡ r = cond-false (is_lt (slice_cmp int_cmp (numbers_of (opposite_row r)) (numbers_of r))) (opposite_row r) r f in
      ap lesser is
]
  where
    reversed : (o : Ordering) → is_lt o ≡ true → is_lt (ordering_reverse o) ≡ false
    reversed Less t = refl
    reversed Equal t = refl
    reversed Greater t = cc

    not_both : (xs ys : List ℤ) → is_lt (slice_cmp int_cmp xs ys) ≡ true → is_lt (slice_cmp int_cmp ys xs) ≡ false
    not_both xs ys t = rw ((lists_total int_cmp_total).antisymm ys xs) (reversed (slice_cmp int_cmp xs ys) t)

    opposite_stays : (o s : Row) → opposite_row o ≡ s → is_lt (slice_cmp int_cmp (numbers_of s) (numbers_of o)) ≡ false → lesser o ≡ o
    opposite_stays o s e f = cond-false (is_lt (slice_cmp int_cmp (numbers_of (opposite_row o)) (numbers_of o))) (opposite_row o) o (ap (λ (x : Row). is_lt (slice_cmp int_cmp (numbers_of x) (numbers_of o))) e ∙ f)

divides_settled : (cs : List ℤ) (c k : ℤ) → IsRemainderRow (congruence cs c k) → normal_divides cs c k ≡ Kept (lesser (congruence cs c k))
divides_settled cs c k h =
    let p = h.positive in
    let e : reduced k cs ≡ cs = reduced_reduced k cs h.coefs in
    let f : floor_mod c k ≡ c = floor_mod-from_IsRemainder k c h.constant in
    let one : common_part cs k ≡ pos 1 = ap (λ ds. content (k ∷ ds)) e ∙ h.common in
    normal_divides-kept cs c k p (rw one (one-Divides (floor_mod c k))) (λ g. h.large (sym (quotient_one k) ∙ ap (λ w. floor_div k w) (sym one) ∙ g))
    ∙ ap (λ r. Kept (lesser r)) (by (common_part cs k) (reduced k cs) (floor_mod c k) one e f)
  where
    by : (g : ℤ) (ds : List ℤ) (d : ℤ) → g ≡ pos 1 → ds ≡ cs → d ≡ c → congruence (divided g ds) (floor_div d g) (floor_div k g) ≡ congruence cs c k
    by g ds d e f i = rw (e, f, i, divided_one cs, quotient_one c, quotient_one k) refl

divided_reduced : (cs : List ℤ) (c k : ℤ) → pos 0 <ℤ k → divide.Divides (common_part cs k) (floor_mod c k) → floor_div k (common_part cs k) ≢ pos 1 → IsRemainderRow (divided_congruence cs c k)
divided_reduced cs c k p d n =
    let g = common_part cs k in
    let q = common_part-positive cs k p in
    let is = IsContentOf-content (k ∷ reduced k cs) in
    let part = All-head (divide.Divides g) k (reduced k cs) is.common in
    record {
      positive = positive-divided g k q p part;
      large = n;
      coefs = All-IsRemainder-divided g k (reduced k cs) q p part (All-tail (divide.Divides g) k (reduced k cs) is.common) (All-IsRemainder-reduced k cs p);
      constant = IsRemainder-divided g k (floor_mod c k) q p part d (IsRemainder-floor_mod k c p);
      common = content_is (floor_div k g ∷ divided g (reduced k cs)) (pos 1) (IsContentOf-divided (k ∷ reduced k cs) g q is);
    }

-- what `normal_divides` keeps
IsSettledCongruence : Row → Type 0
IsSettledCongruence r = (r.kind ≡ Divides) × (normal_divides r.coefs r.constant r.k ≡ Kept r)

settled_divides : (cs : List ℤ) (c k : ℤ) → pos 0 <ℤ k → IfKept (λ r. (r.kind ≡ Divides) × (normal_divides r.coefs r.constant r.k ≡ Kept r)) (normal_divides cs c k)
settled_divides cs c k p = normal_divides_by (IfKept (λ r. (r.kind ≡ Divides) × (normal_divides r.coefs r.constant r.k ≡ Kept r))) cs c k p (λ m. tt) (λ d e. tt)
    (λ d n. kept (divided_congruence cs c k) refl (divided_reduced cs c k p d n))
  where
    again : (r : Row) → r.kind ≡ Divides → IsRemainderRow r → normal_divides r.coefs r.constant r.k ≡ Kept (lesser r)
    again r is h =
        let same : congruence r.coefs r.constant r.k ≡ r = ap (λ (kind : RowKind). let s : Row = record { kind = kind; coefs = r.coefs; constant = r.constant; k = r.k } in s) (sym is) in
        divides_settled r.coefs r.constant r.k (record { positive = h.positive; large = h.large; coefs = h.coefs; constant = h.constant; common = h.common })
        ∙ ap (λ s. Kept (lesser s)) same

    kept : (r : Row) → r.kind ≡ Divides → IsRemainderRow r → ((lesser r).kind ≡ Divides) × (normal_divides (lesser r).coefs (lesser r).constant (lesser r).k ≡ Kept (lesser r))
    kept r is h =
        let kind : (lesser r).kind ≡ Divides = lesser_by (λ s. s.kind ≡ Divides) r is is in
        (kind, again (lesser r) kind (reduced_lesser r h) ∙ ap Kept (lesser_lesser r h))

settled_negated : (v : Verdict) → IfKept (λ r. (r.kind ≡ Divides) × (normal_divides r.coefs r.constant r.k ≡ Kept r)) v → IfKept (λ r. normal_row r ≡ Kept r) (negated v)
settled_negated Always h = tt
settled_negated Never h = tt
settled_negated (Kept r) h = ap negated h.1

settled_form : (kind : RowKind) (cs : List ℤ) (c k : ℤ) → HasModulus kind k → IfKept (λ r. normal_row r ≡ Kept r) (normal_form kind cs c k)
settled_form Zero cs c k h = settled_zero cs c
settled_form AtLeast cs c k h = settled_at_least cs c
settled_form Divides cs c k h = IfKept-weaker _ _ (normal_divides cs c k) (λ r g. by r g.0 g.1) (settled_divides cs c k h)
  where
    by : (r : Row) → r.kind ≡ Divides → normal_divides r.coefs r.constant r.k ≡ Kept r → normal_row r ≡ Kept r
    by r is e = ap (λ (kind : RowKind). normal_form kind r.coefs r.constant r.k) is ∙ e
settled_form NotDivides cs c k h = settled_negated (normal_divides cs c k) (settled_divides cs c k h)

-- a normal row is its own normal form
pub normal_row_settled : (r : Row) → HasModulus r.kind r.k → IfKept (λ s. normal_row s ≡ Kept s) (normal_row r)
normal_row_settled r h = settled_form r.kind r.coefs r.constant r.k h
