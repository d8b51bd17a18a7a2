-- A row whose normal form is kept holds at some point, and fails at some.
use Rattle.std.proofs.Common.{◌≡◌, ◌↔◌, inl, inr, refl, sym, ap, ◌∙◌, arith, ◌≤ℤ◌, ◌<ℤ◌, ℤ, pos, neg_ℤ, ◌+ℤ◌, ◌-ℤ◌, ◌*ℤ◌, List, [], ◌∷◌, subst}
use Rattle.std.specs.List.{All}
use Rattle.std.proofs.lemmas.List.Elements.{All-nil, All-cons, All-head}
use Rattle.isl_math.specs.Divide as divide
use Rattle.isl_math.specs.Divide.{floor_div, floor_mod}
use Rattle.isl_math.specs.Dot.{dot, scaled}
use Rattle.isl_math.specs.Gcd.{content}
use Rattle.isl_math.specs.Order.{abs_of}
use Rattle.isl_math.proofs.Ring.{expand, linear}
use Rattle.isl_math.proofs.OrderLaws.{*ℤ-≤ℤ, ≡-from_*ℤ, positive_not_zero}
use Rattle.isl_math.proofs.DotLaws.{dot-scaled_right, dot-nil_right}
use Rattle.isl_math.proofs.DivideLaws.{exact_quotient, Divides_self, bezout, Divides-minus, Divides-same, le_from_Divides}
use Rattle.isl_math.proofs.GcdLaws.{IsContentOf-content, gcd_of-from_IsGcdOf}
use Rattle.isl_piece.specs.declared.row.RowKind.{RowKind}
use Rattle.isl_piece.specs.declared.row.RowKind.TheVariants.{Zero, AtLeast, Divides, NotDivides}
use Rattle.isl_piece.specs.declared.row.Row.{Row}
use Rattle.isl_piece.specs.Normal.{Always, Never, Kept}
use Rattle.isl_piece.specs.Numbers.{reduced}
use Rattle.isl_piece.specs.Row.{HoldsValue, HoldsRow, HasModulus, IsContingent}
use Rattle.isl_piece.specs.Normal.{normal_zero, normal_at_least, normal_divides, normal_form, normal_row, negated}
use Rattle.isl_piece.proofs.NormalCases.{content_positive, common_part, common_part-positive, divides_cases, normal_zero_by, normal_at_least_by, normal_divides_by}
use Rattle.isl_piece.proofs.PointLaws.{HoldsVerdict, normal_row_holds, reduced_divides}

-- ---- the content is a value of the form without its constant
pub record Reaches (cs : List ℤ) (z : ℤ) : Type 0 where
  pub point : List ℤ
  pub is : dot cs point ≡ z

pub content_reached : (cs : List ℤ) → Reaches cs (content cs)
content_reached [] = record { point = []; is = refl }
content_reached (c ∷ cs) =
    let rest = content_reached cs in
    let b = bezout c (content cs) in
    record {
      point = b.first ∷ scaled b.second rest.point;
      is = by c (content cs) b.first b.second b.gcd (dot cs rest.point) (dot cs (scaled b.second rest.point)) rest.is (dot-scaled_right b.second cs rest.point) b.sum ∙ gcd_of-from_IsGcdOf c (content cs) b.gcd b.is_gcd;
    }
  where
    by : (c h s t g d e : ℤ) → d ≡ h → e ≡ t *ℤ d → g ≡ s *ℤ c +ℤ t *ℤ h → c *ℤ s +ℤ e ≡ g
    by c h s t g d e f i j = let f' = simp expand at (ap (λ w. t *ℤ w) f) in let j' = simp expand at j in let i' = simp expand at i in simp expand (omega (arith, linear))

times_reached : (cs : List ℤ) (m : ℤ) → Reaches cs (m *ℤ content cs)
times_reached cs m = let r = content_reached cs in record { point = scaled m r.point; is = dot-scaled_right m cs r.point ∙ ap (λ w. m *ℤ w) r.is }

-- ---- rows that hold at no point
-- the form has the value z at some point
some_value : (cs : List ℤ) (c z : ℤ) (P : ℤ → Type 0) → Reaches cs z → ((xs : List ℤ) → ¬ P (dot cs xs +ℤ c)) → ¬ P (z +ℤ c)
some_value cs c z P r h p = h r.point (rw r.is p)

never_zero : (cs : List ℤ) (c : ℤ) → ((xs : List ℤ) → ¬ (dot cs xs +ℤ c ≡ pos 0)) → normal_zero cs c ≡ Never
never_zero cs c h = normal_zero_by (λ v. v ≡ Never) cs c
    (λ e f. absurd (h [] (let d = dot-nil_right cs in omega (arith, linear))))
    (λ e n. refl)
    (λ n d. refl)
    (λ n d. absurd (some_value cs c (neg_ℤ d.quotient *ℤ content cs) (λ z. z ≡ pos 0) (times_reached cs (neg_ℤ d.quotient)) h (by (content cs) c d.quotient d.is)))
  where
    by : (g c q : ℤ) → c ≡ g *ℤ q → neg_ℤ q *ℤ g +ℤ c ≡ pos 0
    by g c q e = simp expand (omega (arith, linear))

never_at_least : (cs : List ℤ) (c : ℤ) → ((xs : List ℤ) → ¬ (pos 0 ≤ℤ (dot cs xs +ℤ c))) → normal_at_least cs c ≡ Never
never_at_least cs c h = normal_at_least_by (λ v. v ≡ Never) cs c
    (λ e f. refl)
    (λ e f. absurd (h [] (let d = dot-nil_right cs in omega (arith, linear))))
    (λ n. absurd (some_value cs c (abs_of c *ℤ content cs) (λ z. pos 0 ≤ℤ z) (times_reached cs (abs_of c)) h (by (content cs) c (content_positive cs n))))
  where
    by : (g c : ℤ) → pos 0 <ℤ g → pos 0 ≤ℤ (abs_of c *ℤ g +ℤ c)
    by g c p = let m = *ℤ-≤ℤ (abs_of c) (pos 1) g (omega (arith, linear)) (omega (arith, linear)) in omega (arith, linear)

-- where the content of k and the columns divides the constant, k divides the form at some point
divides_somewhere : (cs : List ℤ) (c k : ℤ) → pos 0 <ℤ k → divide.Divides (common_part cs k) (floor_mod c k) → ¬ ((xs : List ℤ) → ¬ divide.Divides k (dot cs xs +ℤ c))
divides_somewhere cs c k p d h = by (times_reached (k ∷ reduced k cs) (neg_ℤ d.quotient))
  where
    sum : (g c q m r : ℤ) → c ≡ g *ℤ q → m +ℤ r ≡ neg_ℤ q *ℤ g → r +ℤ c ≡ neg_ℤ m
    sum g c q m r e f = let e' = simp expand at e in let f' = simp expand at f in simp expand (omega (arith, linear))

    turned : (k y : ℤ) → neg_ℤ (k *ℤ y) ≡ k *ℤ neg_ℤ y
    turned k y = simp expand (omega (arith, linear))

    at : (point : List ℤ) → dot (k ∷ reduced k cs) point ≡ neg_ℤ d.quotient *ℤ common_part cs k → ⊥
    at [] e = h [] ((reduced_divides cs c k [] p).0 (record { quotient = pos 0; is = sum (common_part cs k) (floor_mod c k) d.quotient (pos 0) (dot (reduced k cs) []) d.is (ap (λ w. pos 0 +ℤ w) (dot-nil_right (reduced k cs)) ∙ e) ∙ (omega (arith, linear)) }))
    at (y ∷ xs) e = h xs ((reduced_divides cs c k xs p).0 (record { quotient = neg_ℤ y; is = sum (common_part cs k) (floor_mod c k) d.quotient (k *ℤ y) (dot (reduced k cs) xs) d.is e ∙ turned k y }))

    by : Reaches (k ∷ reduced k cs) (neg_ℤ d.quotient *ℤ common_part cs k) → ⊥
    by r = at r.point r.is

never_divides : (cs : List ℤ) (c k : ℤ) → pos 0 <ℤ k → ((xs : List ℤ) → ¬ divide.Divides k (dot cs xs +ℤ c)) → normal_divides cs c k ≡ Never
never_divides cs c k p h = normal_divides_by (λ v. v ≡ Never) cs c k p
    (λ n. refl)
    (λ d e. absurd (divides_somewhere cs c k p d h))
    (λ d n. absurd (divides_somewhere cs c k p d h))

-- a number that divides a form everywhere divides its numbers
divides_constant : (k c : ℤ) (cs : List ℤ) → ((xs : List ℤ) → divide.Divides k (dot cs xs +ℤ c)) → divide.Divides k c
divides_constant k c cs h = Divides-same k (dot cs [] +ℤ c) c (let e = dot-nil_right cs in omega (arith, linear)) (h [])

divides_columns : (k : ℤ) (cs : List ℤ) → ((xs : List ℤ) → divide.Divides k (dot cs xs)) → All (divide.Divides k) cs
divides_columns k [] h = All-nil (divide.Divides k)
divides_columns k (c ∷ cs) h =
    All-cons (divide.Divides k) c cs
    (Divides-same k (dot (c ∷ cs) (pos 1 ∷ [])) c (one c (dot cs []) (dot-nil_right cs)) (h (pos 1 ∷ [])))
    (divides_columns k cs (λ xs. Divides-same k (dot (c ∷ cs) (pos 0 ∷ xs)) (dot cs xs) (none c (dot cs xs)) (h (pos 0 ∷ xs))))
  where
    one : (c d : ℤ) → d ≡ pos 0 → c *ℤ pos 1 +ℤ d ≡ c
    one c d e = omega (arith, linear)

    none : (c d : ℤ) → c *ℤ pos 0 +ℤ d ≡ d
    none c d = omega (arith, linear)

always_divides : (cs : List ℤ) (c k : ℤ) → pos 0 <ℤ k → ((xs : List ℤ) → divide.Divides k (dot cs xs +ℤ c)) → normal_divides cs c k ≡ Always
always_divides cs c k p h = normal_divides_by (λ v. v ≡ Always) cs c k p
    (λ n. absurd (divides_nowhere n))
    (λ d e. refl)
    (λ d n. absurd (n (whole d)))
  where
    everywhere : (xs : List ℤ) → divide.Divides k (dot (reduced k cs) xs +ℤ floor_mod c k)
    everywhere xs = (reduced_divides cs c k xs p).1 (h xs)

    constant : divide.Divides k (floor_mod c k)
    constant = divides_constant k (floor_mod c k) (reduced k cs) everywhere

    columns : All (divide.Divides k) (k ∷ reduced k cs)
    columns = All-cons (divide.Divides k) k (reduced k cs) (record { quotient = pos 1; is = omega (arith, linear) }) (divides_columns k (reduced k cs) (λ xs. Divides-same k (dot (reduced k cs) xs +ℤ floor_mod c k -ℤ floor_mod c k) (dot (reduced k cs) xs) (omega (arith, linear)) (Divides-minus k (dot (reduced k cs) xs +ℤ floor_mod c k) (floor_mod c k) (everywhere xs) constant)))

    part : divide.Divides (common_part cs k) k
    part = All-head (divide.Divides (common_part cs k)) k (reduced k cs) (IsContentOf-content (k ∷ reduced k cs)).common

    same : common_part cs k ≡ k
    same = antisymmetric (common_part cs k) k (common_part-positive cs k p) p part ((IsContentOf-content (k ∷ reduced k cs)).greatest k columns)
      where
        antisymmetric : (g k : ℤ) → pos 0 <ℤ g → pos 0 <ℤ k → divide.Divides g k → divide.Divides k g → g ≡ k
        antisymmetric g k p q d e = let a = le_from_Divides g k q d in let b = le_from_Divides k g p e in omega (arith, linear)

    divides_nowhere : ¬ divide.Divides (common_part cs k) (floor_mod c k) → ⊥
    divides_nowhere n = n (rw same constant)

    whole : divide.Divides (common_part cs k) (floor_mod c k) → floor_div k (common_part cs k) ≡ pos 1
    whole d = rw same (by k p)
      where
        by : (k : ℤ) → pos 0 <ℤ k → floor_div k k ≡ pos 1
        by k p = let e = exact_quotient k k p (Divides_self k) in from k (floor_div k k) p (e ∙ omega (arith, linear))
          where
            from : (k q : ℤ) → pos 0 <ℤ k → k *ℤ q ≡ k *ℤ pos 1 → q ≡ pos 1
            from k q p e = ≡-from_*ℤ k q (pos 1) (positive_not_zero k p) e

never_form : (kind : RowKind) (cs : List ℤ) (c k : ℤ) → HasModulus kind k → ((xs : List ℤ) → ¬ HoldsValue kind k (dot cs xs +ℤ c)) → normal_form kind cs c k ≡ Never
never_form Zero cs c k d h = never_zero cs c h
never_form AtLeast cs c k d h = never_at_least cs c h
never_form Divides cs c k d h = never_divides cs c k d h
never_form NotDivides cs c k d h = ap negated (always_divides cs c k d (λ xs. elim (divides_cases k (dot cs xs +ℤ c) d) [ inl e ↦ e | inr n ↦ absurd (h xs n) ]))

-- the normal form of a row is `Never` exactly where it holds at no point
pub never_exactly : (r : Row) → HasModulus r.kind r.k → (normal_row r ≡ Never) ↔ ((xs : List ℤ) → ¬ HoldsRow r xs)
never_exactly r d = (
  (λ e xs h. subst (λ v. HoldsVerdict v xs) e ((normal_row_holds r xs d).1 h)),
  (λ h. never_form r.kind r.coefs r.constant r.k d h),
)

-- ---- rows that hold at every point
always_zero : (cs : List ℤ) (c : ℤ) → ((xs : List ℤ) → dot cs xs +ℤ c ≡ pos 0) → normal_zero cs c ≡ Always
always_zero cs c h = normal_zero_by (λ v. v ≡ Always) cs c
    (λ e f. refl)
    (λ e n. absurd (n constant))
    (λ n d. absurd (n none))
    (λ n d. absurd (n none))
  where
    constant : c ≡ pos 0
    constant = let d = dot-nil_right cs in let e = h [] in omega (arith, linear)

    none : content cs ≡ pos 0
    none = let r = content_reached cs in let e = r.is in let f = h r.point in let g = constant in omega (arith, linear)

always_at_least : (cs : List ℤ) (c : ℤ) → ((xs : List ℤ) → pos 0 ≤ℤ (dot cs xs +ℤ c)) → normal_at_least cs c ≡ Always
always_at_least cs c h = normal_at_least_by (λ v. v ≡ Always) cs c
    (λ e f. absurd (let d = dot-nil_right cs in let g = h [] in omega (arith, linear)))
    (λ e f. refl)
    (λ n. absurd (below (content cs) (content_positive cs n) (times_reached cs (neg_ℤ (abs_of c +ℤ pos 1)))))
  where
    negative : (g c : ℤ) → pos 0 <ℤ g → (neg_ℤ (abs_of c +ℤ pos 1) *ℤ g +ℤ c) <ℤ pos 0
    negative g c p = let m = *ℤ-≤ℤ (abs_of c +ℤ pos 1) (pos 1) g (omega (arith, linear)) (omega (arith, linear)) in by g (abs_of c +ℤ pos 1) c m (omega (arith, linear))
      where
        by : (g a c : ℤ) → (a *ℤ pos 1) ≤ℤ (a *ℤ g) → c <ℤ a → (neg_ℤ a *ℤ g +ℤ c) <ℤ pos 0
        by g a c m l = let m' = simp expand at m in simp expand (omega (arith, linear))

    below : (g : ℤ) → pos 0 <ℤ g → Reaches cs (neg_ℤ (abs_of c +ℤ pos 1) *ℤ g) → ⊥
    below g p r = let e = r.is in let f = h r.point in let n = negative g c p in omega (arith, linear)

always_form : (kind : RowKind) (cs : List ℤ) (c k : ℤ) → HasModulus kind k → ((xs : List ℤ) → HoldsValue kind k (dot cs xs +ℤ c)) → normal_form kind cs c k ≡ Always
always_form Zero cs c k d h = always_zero cs c h
always_form AtLeast cs c k d h = always_at_least cs c h
always_form Divides cs c k d h = always_divides cs c k d h
always_form NotDivides cs c k d h = ap negated (never_divides cs c k d h)

-- the normal form of a row is `Always` exactly where it holds at every point
pub always_exactly : (r : Row) → HasModulus r.kind r.k → (normal_row r ≡ Always) ↔ ((xs : List ℤ) → HoldsRow r xs)
always_exactly r d = (
  (λ e xs. (normal_row_holds r xs d).0 (subst (λ v. HoldsVerdict v xs) (sym e) tt)),
  (λ h. always_form r.kind r.coefs r.constant r.k d h),
)

-- a normal row holds at some point, and fails at some
pub IsContingent-settled : (r : Row) → HasModulus r.kind r.k → normal_row r ≡ Kept r → IsContingent r
IsContingent-settled r d e = record {
  possible = λ h. let f = (never_exactly r d).1 h in cc;
  refutable = λ h. let f = (always_exactly r d).1 h in cc;
}
