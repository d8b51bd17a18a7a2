-- A row and its normal form hold at the same points.
use Rattle.std.proofs.Common.{◌≡◌, ◌≢◌, ◌↔◌, refl, sym, ap, arith, ℤ, pos, neg_ℤ, ◌+ℤ◌, ◌-ℤ◌, ◌*ℤ◌, ◌≤ℤ◌, ◌<ℤ◌, List, ◌∷◌}
use Rattle.std.proofs.lemmas.List.Elements.{All-head, All-tail}
use Rattle.isl_math.specs.Divide as divide
use Rattle.isl_math.specs.Divide.{floor_div, floor_mod, IsCongruent}
use Rattle.isl_math.specs.Dot.{dot}
use Rattle.isl_math.specs.Gcd.{content}
use Rattle.isl_math.specs.Order.{sign_of}
use Rattle.isl_math.proofs.Ring.{expand, linear}
use Rattle.isl_math.proofs.OrderLaws.{≡-from_*ℤ}
use Rattle.isl_math.proofs.DivideLaws.{at_most_floor, exact_quotient, Divides_scaled, Divides-+ℤ, Divides-minus, Divides-neg_ℤ, Divides-same, Divides_trans, IsCongruent-floor_mod, IsCongruent-+ℤ, one-Divides}
use Rattle.isl_math.proofs.DotLaws.{dot-scaled}
use Rattle.isl_math.proofs.GcdLaws.{IsContentOf-content}
use Rattle.isl_piece.specs.declared.row.RowKind.{RowKind}
use Rattle.isl_piece.specs.declared.row.RowKind.TheVariants.{Zero, AtLeast, Divides, NotDivides}
use Rattle.isl_piece.specs.declared.row.Row.{Row}
use Rattle.isl_piece.specs.Normal.{Verdict, Always, Never, Kept}
use Rattle.isl_piece.specs.Numbers.{divided, reduced, opposite, lead}
use Rattle.isl_piece.specs.Row.{HoldsValue, HoldsRow, HasModulus}
use Rattle.isl_piece.specs.Normal.{normal_zero, normal_at_least, normal_divides, normal_form, normal_row, negated, upright, lesser}
use Rattle.isl_piece.proofs.NumberLaws.{Divides-dot, dot-divided, dot-reduced, dot-opposite, positive-divided}
use Rattle.isl_piece.proofs.ContentLaws.{content-divided, lead_not_zero, sign_not_zero}
use Rattle.isl_piece.proofs.NormalCases.{content_positive, common_part, common_part-positive, divided_congruence, normal_zero_by, normal_at_least_by, normal_divides_by, lesser_by}

-- what a verdict says of a point
abbrev pub HoldsVerdict : Verdict → List ℤ → Type 0
HoldsVerdict Always xs = Unit {0}
HoldsVerdict Never xs = ⊥
HoldsVerdict (Kept r) xs = HoldsRow r xs

-- ---- the columns' part
dot_zero : (cs xs : List ℤ) → content cs ≡ pos 0 → dot cs xs ≡ pos 0
dot_zero cs xs e = by (content cs) (dot cs xs) e (Divides-dot (content cs) cs xs (IsContentOf-content cs).common)
  where
    by : (g z : ℤ) → g ≡ pos 0 → divide.Divides g z → z ≡ pos 0
    by g z e d = let q = ap (λ w. w *ℤ d.quotient) e in let f = d.is in omega (arith, linear)

content-dot : (cs xs : List ℤ) → divide.Divides (content cs) (dot cs xs)
content-dot cs xs = Divides-dot (content cs) cs xs (IsContentOf-content cs).common

-- where g divides one of two numbers and their sum, it divides the other
other_part : (g v c : ℤ) → divide.Divides g v → divide.Divides g (v +ℤ c) → divide.Divides g c
other_part g v c d s = Divides-same g (v +ℤ c -ℤ v) c (omega (arith, linear)) (Divides-minus g (v +ℤ c) v s d)

-- ---- a form that is 0
zero_scaled : (s g w q v c : ℤ) → s ≢ pos 0 → g ≢ pos 0 → g *ℤ w ≡ v → g *ℤ q ≡ c → (s *ℤ w +ℤ s *ℤ q ≡ pos 0) ↔ (v +ℤ c ≡ pos 0)
zero_scaled s g w q v c m n e f = (
  (λ h. let z = ≡-from_*ℤ s (w +ℤ q) (pos 0) m (times_zero s (w +ℤ q) (let h' = simp expand at h in simp expand (omega (arith, linear)))) in
      let t = simp expand at (ap (λ y. g *ℤ y) z) in omega (arith, linear)),
  (λ h. let z = ≡-from_*ℤ g (w +ℤ q) (pos 0) n (times_zero g (w +ℤ q) (simp expand (omega (arith, linear)))) in
      let t = simp expand at (ap (λ y. s *ℤ y) z) in omega (arith, linear)),
)
  where
    times_zero : (s z : ℤ) → s *ℤ z ≡ pos 0 → s *ℤ z ≡ s *ℤ pos 0
    times_zero s z h = omega (arith, linear)

pub normal_zero_holds : (cs : List ℤ) (c : ℤ) (xs : List ℤ) → HoldsVerdict (normal_zero cs c) xs ↔ (dot cs xs +ℤ c ≡ pos 0)
normal_zero_holds cs c xs = normal_zero_by (λ v. HoldsVerdict v xs ↔ (dot cs xs +ℤ c ≡ pos 0)) cs c
    (λ e f. ((λ _. let z = dot_zero cs xs e in omega (arith, linear)), (λ _. tt)))
    (λ e n. ((λ h. absurd h), (λ h. let z = dot_zero cs xs e in absurd (n (omega (arith, linear))))))
    (λ n d. ((λ h. absurd h), (λ h. absurd (d (other_part (content cs) (dot cs xs) c (content-dot cs xs) (record { quotient = pos 0; is = omega (arith, linear) }))))))
    (λ n d. kept n d)
  where
    kept : content cs ≢ pos 0 → divide.Divides (content cs) c → HoldsRow (upright (divided (content cs) cs) (floor_div c (content cs))) xs ↔ (dot cs xs +ℤ c ≡ pos 0)
    kept n d =
        let g = content cs in
        let p = content_positive cs n in
        let ds = divided g cs in
        let s = sign_of (lead ds) in
        let one : content ds ≢ pos 0 = λ e. let f = content-divided cs n in two_numbers (content ds) f e in
        rw (dot-scaled s ds xs) (zero_scaled s g (dot ds xs) (floor_div c g) (dot cs xs) c (sign_not_zero (lead ds) (lead_not_zero ds one)) n (dot-divided g cs xs p (IsContentOf-content cs).common) (exact_quotient g c p d))
      where
        two_numbers : (z : ℤ) → z ≡ pos 1 → z ≡ pos 0 → ⊥
        two_numbers z e f = omega (arith, linear)

-- ---- a form that is at least 0
pub normal_at_least_holds : (cs : List ℤ) (c : ℤ) (xs : List ℤ) → HoldsVerdict (normal_at_least cs c) xs ↔ (pos 0 ≤ℤ (dot cs xs +ℤ c))
normal_at_least_holds cs c xs = normal_at_least_by (λ v. HoldsVerdict v xs ↔ (pos 0 ≤ℤ (dot cs xs +ℤ c))) cs c
    (λ e h. ((λ f. absurd f), (λ f. let z = dot_zero cs xs e in omega (arith, linear))))
    (λ e h. ((λ _. let z = dot_zero cs xs e in omega (arith, linear)), (λ _. tt)))
    (λ n. by (content cs) (dot (divided (content cs) cs) xs) (dot cs xs) c (content_positive cs n) (dot-divided (content cs) cs xs (content_positive cs n) (IsContentOf-content cs).common))
  where
    by : (g w v c : ℤ) → pos 0 <ℤ g → g *ℤ w ≡ v → (pos 0 ≤ℤ (w +ℤ floor_div c g)) ↔ (pos 0 ≤ℤ (v +ℤ c))
    by g w v c p e =
        let f = at_most_floor c g (neg_ℤ w) p in
        let m : g *ℤ neg_ℤ w ≡ neg_ℤ v = simp expand (omega (arith, linear)) in (
          (λ h. let t = f.0 (omega (arith, linear)) in omega (arith, linear)),
          (λ h. let t = f.1 (omega (arith, linear)) in omega (arith, linear)),
        )

-- ---- a form that k divides
-- congruent numbers are divisible at once
congruent_divides : (k a b : ℤ) → IsCongruent k a b → divide.Divides k a ↔ divide.Divides k b
congruent_divides k a b h = (
  (λ d. Divides-same k (a -ℤ (a -ℤ b)) b (omega (arith, linear)) (Divides-minus k a (a -ℤ b) d h)),
  (λ d. Divides-same k (a -ℤ b +ℤ b) a (omega (arith, linear)) (Divides-+ℤ k (a -ℤ b) b h d)),
)

negative_divides : (k z : ℤ) → divide.Divides k (neg_ℤ z) ↔ divide.Divides k z
negative_divides k z = (
  (λ d. Divides-same k (neg_ℤ (neg_ℤ z)) z (omega (arith, linear)) (Divides-neg_ℤ k (neg_ℤ z) d)),
  (λ d. Divides-neg_ℤ k z d),
)

both_ways : {P Q R : Type 0} → P ↔ Q → Q ↔ R → P ↔ R
both_ways f g = ((λ p. g.0 (f.0 p)), (λ r. f.1 (g.1 r)))

turned : {P Q : Type 0} → P ↔ Q → Q ↔ P
turned f = (f.1, f.0)

-- the reduced form
pub reduced_divides : (cs : List ℤ) (c k : ℤ) (xs : List ℤ) → pos 0 <ℤ k → divide.Divides k (dot (reduced k cs) xs +ℤ floor_mod c k) ↔ divide.Divides k (dot cs xs +ℤ c)
reduced_divides cs c k xs p = turned (congruent_divides k (dot cs xs +ℤ c) (dot (reduced k cs) xs +ℤ floor_mod c k) (IsCongruent-+ℤ k (dot cs xs) (dot (reduced k cs) xs) c (floor_mod c k) (dot-reduced k cs xs p) (IsCongruent-floor_mod k c p)))

-- the opposite form
opposite_divides : (cs : List ℤ) (c k : ℤ) (xs : List ℤ) → pos 0 <ℤ k → divide.Divides k (dot (opposite k cs) xs +ℤ floor_mod (neg_ℤ c) k) ↔ divide.Divides k (dot cs xs +ℤ c)
opposite_divides cs c k xs p =
    both_ways (turned (congruent_divides k (neg_ℤ (dot cs xs) +ℤ neg_ℤ c) (dot (opposite k cs) xs +ℤ floor_mod (neg_ℤ c) k) (IsCongruent-+ℤ k (neg_ℤ (dot cs xs)) (dot (opposite k cs) xs) (neg_ℤ c) (floor_mod (neg_ℤ c) k) (dot-opposite k cs xs p) (IsCongruent-floor_mod k (neg_ℤ c) p))))
    (rw (sum (dot cs xs) c) (negative_divides k (dot cs xs +ℤ c)))
  where
    sum : (a b : ℤ) → neg_ℤ a +ℤ neg_ℤ b ≡ neg_ℤ (a +ℤ b)
    sum a b = omega (arith, linear)

-- the form, divided with k
common_divides : (cs : List ℤ) (c k : ℤ) (xs : List ℤ) → pos 0 <ℤ k → divide.Divides (common_part cs k) (floor_mod c k)
    → divide.Divides (floor_div k (common_part cs k)) (dot (divided (common_part cs k) (reduced k cs)) xs +ℤ floor_div (floor_mod c k) (common_part cs k)) ↔ divide.Divides k (dot cs xs +ℤ c)
common_divides cs c k xs p d =
    let g = common_part cs k in
    let q = common_part-positive cs k p in
    let all = (IsContentOf-content (k ∷ reduced k cs)).common in
    let dk = All-head (divide.Divides g) k (reduced k cs) all in
    both_ways (turned (Divides_scaled g (floor_div k g) (dot (divided g (reduced k cs)) xs +ℤ floor_div (floor_mod c k) g) q))
    (both_ways (same g (floor_div k g) k (dot (divided g (reduced k cs)) xs) (dot (reduced k cs) xs) (floor_div (floor_mod c k) g) (floor_mod c k) (exact_quotient g k q dk) (dot-divided g (reduced k cs) xs q (All-tail (divide.Divides g) k (reduced k cs) all)) (exact_quotient g (floor_mod c k) q d))
    (reduced_divides cs c k xs p))
  where
    same : (g h k w v q c : ℤ) → g *ℤ h ≡ k → g *ℤ w ≡ v → g *ℤ q ≡ c → divide.Divides (g *ℤ h) (g *ℤ (w +ℤ q)) ↔ divide.Divides k (v +ℤ c)
    same g h k w v q c e f i =
        let s : g *ℤ (w +ℤ q) ≡ v +ℤ c = simp expand (omega (arith, linear)) in
        rw (e, s) ((λ d. d), (λ d. d))

pub lesser_holds : (r : Row) (xs : List ℤ) → r.kind ≡ Divides → pos 0 <ℤ r.k → HoldsRow (lesser r) xs ↔ HoldsRow r xs
lesser_holds r xs is p = lesser_by (λ s. HoldsRow s xs ↔ HoldsRow r xs) r ((λ h. h), (λ h. h)) (rw is (opposite_divides r.coefs r.constant r.k xs p))

pub normal_divides_holds : (cs : List ℤ) (c k : ℤ) (xs : List ℤ) → pos 0 <ℤ k → HoldsVerdict (normal_divides cs c k) xs ↔ divide.Divides k (dot cs xs +ℤ c)
normal_divides_holds cs c k xs p = normal_divides_by (λ v. HoldsVerdict v xs ↔ divide.Divides k (dot cs xs +ℤ c)) cs c k p
    (λ n. ((λ h. absurd h), (λ h. absurd (n (apart h)))))
    (λ d e. ((λ _. (common_divides cs c k xs p d).0 (by_one e)), (λ _. tt)))
    (λ d n. both_ways (lesser_holds (divided_congruence cs c k) xs refl (positive-divided (common_part cs k) k (common_part-positive cs k p) p part)) (common_divides cs c k xs p d))
  where
    part : divide.Divides (common_part cs k) k
    part = All-head (divide.Divides (common_part cs k)) k (reduced k cs) (IsContentOf-content (k ∷ reduced k cs)).common

    apart : divide.Divides k (dot cs xs +ℤ c) → divide.Divides (common_part cs k) (floor_mod c k)
    apart h =
        let g = common_part cs k in
        let all = (IsContentOf-content (k ∷ reduced k cs)).common in
        other_part g (dot (reduced k cs) xs) (floor_mod c k) (Divides-dot g (reduced k cs) xs (All-tail (divide.Divides g) k (reduced k cs) all)) (Divides_trans g k (dot (reduced k cs) xs +ℤ floor_mod c k) part ((reduced_divides cs c k xs p).1 h))

    by_one : {z : ℤ} → floor_div k (common_part cs k) ≡ pos 1 → divide.Divides (floor_div k (common_part cs k)) z
    by_one {z = z} e = rw e (one-Divides z)

-- ---- a form that k does not divide
pub negated_holds : (v : Verdict) (xs : List ℤ) → ((r : Row) → v ≡ Kept r → r.kind ≡ Divides) → HoldsVerdict (negated v) xs ↔ (¬ HoldsVerdict v xs)
negated_holds Always xs h = ((λ f. absurd f), (λ n. n tt))
negated_holds Never xs h = ((λ _ f. f), (λ _. tt))
negated_holds (Kept r) xs h = rw (h r refl) ((λ n. n), (λ n. n))

pub normal_divides-kind : (cs : List ℤ) (c k : ℤ) → pos 0 <ℤ k → (r : Row) → normal_divides cs c k ≡ Kept r → r.kind ≡ Divides
normal_divides-kind cs c k p = normal_divides_by (λ v. (r : Row) → v ≡ Kept r → r.kind ≡ Divides) cs c k p
    (λ n r e. cc)
    (λ d f r e. cc)
    (λ d n r e. lesser_by (λ s. s ≡ r → r.kind ≡ Divides) (divided_congruence cs c k) (λ f. sym (ap (λ (s : Row). s.kind) f)) (λ f. sym (ap (λ (s : Row). s.kind) f)) (cc))

-- ---- any row
normal_form_holds : (kind : RowKind) (cs : List ℤ) (c k : ℤ) (xs : List ℤ) → HasModulus kind k → HoldsVerdict (normal_form kind cs c k) xs ↔ HoldsValue kind k (dot cs xs +ℤ c)
normal_form_holds Zero cs c k xs h = normal_zero_holds cs c xs
normal_form_holds AtLeast cs c k xs h = normal_at_least_holds cs c xs
normal_form_holds Divides cs c k xs h = normal_divides_holds cs c k xs h
normal_form_holds NotDivides cs c k xs h =
    let e = normal_divides_holds cs c k xs h in
    both_ways (negated_holds (normal_divides cs c k) xs (normal_divides-kind cs c k h)) ((λ n d. n (e.1 d)), (λ n d. n (e.0 d)))

-- a row and its normal form hold at the same points
pub normal_row_holds : (r : Row) (xs : List ℤ) → HasModulus r.kind r.k → HoldsVerdict (normal_row r) xs ↔ HoldsRow r xs
normal_row_holds r xs h = normal_form_holds r.kind r.coefs r.constant r.k xs h
