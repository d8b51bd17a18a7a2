-- What rows say of their last number, where the others are given.
use Rattle.std.proofs.Common.{◌≡◌, ◌⊎◌, ◌↔◌, inl, inr, refl, sym, ap, ◌∙◌, subst, arith, ℕ, zero, suc, ◌+◌, ◌<◌, ℤ, pos, neg_ℤ, ◌<ℤ◌, ◌≤ℤ◌, ◌+ℤ◌, ◌-ℤ◌, ◌*ℤ◌}
use Rattle.std.proofs.Common.{List, [], ◌∷◌, ◌++◌, length, take, get_or}
use Rattle.std.specs.Prelude.{unsigned_abs}
use Rattle.std.specs.List.{All}
use Rattle.std.proofs.lemmas.List.Elements.{All-cons, All-head, All-nil, All-tail}
use Rattle.isl_math.specs.Divide as divide
use Rattle.isl_math.specs.Divide.{floor_div}
use Rattle.isl_math.specs.Dot.{dot}
use Rattle.isl_math.proofs.DotLaws.{dot-append}
use Rattle.isl_math.proofs.DivideLaws.{at_most_floor, Divides-+ℤ, Divides-*ℤ, Divides-same, Divides_trans}
use Rattle.isl_math.proofs.OrderLaws.{*ℤ-≤ℤ, cases_ℤ, at_most_or_above}
use Rattle.isl_math.proofs.Ring.{expand, linear, *ℤ_assoc}
use Rattle.isl_piece.specs.declared.row.RowKind.TheVariants.{AtLeast, Divides, NotDivides}
use Rattle.isl_piece.specs.declared.row.Row.{Row}
use Rattle.isl_piece.specs.Row.{coef_at, value_at, HoldsRow, HoldsValue, IsWellFormed}
use Rattle.isl_greatest_law.specs.Case.{CaseView, Fits, IsBound, IsCase, IsCongruence, IsOther, IsRising, IsSteep, IsTop}

-- ---- values
split_last : (cs : List ℤ) (n : ℕ) → length cs ≡ n + 1 → cs ≡ take n cs ++ get_or cs n (pos 0) ∷ []
split_last [] n e = absurd (omega arith)
split_last (c ∷ []) zero e = refl
split_last (c ∷ d ∷ cs) zero e = absurd (omega arith)
split_last (c ∷ cs) (suc n) e = ap (λ l. c ∷ l) (split_last cs n (omega arith))

length_first : (cs : List ℤ) (n : ℕ) → length cs ≡ n + 1 → length (take n cs) ≡ n
length_first [] n e = absurd (omega arith)
length_first (c ∷ cs) zero e = refl
length_first (c ∷ cs) (suc n) e = ap suc (length_first cs n (omega arith))

-- the form without its last column
abbrev pub rest_of : ℕ → Row → List ℤ → ℤ
rest_of n r q = dot (take n r.coefs) q +ℤ r.constant

pub value_behind : (n : ℕ) (r : Row) (q : List ℤ) (z : ℤ) → length r.coefs ≡ n + 1 → length q ≡ n
    → value_at r (q ++ z ∷ []) ≡ rest_of n r q +ℤ coef_at r n *ℤ z
value_behind n r q z e l =
    let split : dot r.coefs (q ++ z ∷ []) ≡ dot (take n r.coefs) q +ℤ dot (coef_at r n ∷ []) (z ∷ []) =
    ap (λ cs. dot cs (q ++ z ∷ [])) (split_last r.coefs n e)
    ∙ dot-append (take n r.coefs) (coef_at r n ∷ []) q (z ∷ []) (length_first r.coefs n e ∙ sym l) in
    by (dot r.coefs (q ++ z ∷ [])) (dot (take n r.coefs) q) (coef_at r n *ℤ z) split
  where
    by : (a b p : ℤ) → a ≡ b +ℤ (p +ℤ pos 0) → a +ℤ r.constant ≡ (b +ℤ r.constant) +ℤ p
    by a b p h = omega (arith, linear, h)

bound_holds : (r : Row) (point : List ℤ) → IsBound r → HoldsRow r point ↔ (pos 0 ≤ℤ value_at r point)
bound_holds r point is = (
  (λ h. subst (λ k. HoldsValue k r.k (value_at r point)) is h),
  (λ h. subst (λ k. HoldsValue k r.k (value_at r point)) (sym is) h),
)

-- ---- bounds from above
-- the greatest number at which the bound holds
abbrev pub top_of : ℕ → Row → List ℤ → ℤ
top_of n r q = floor_div (rest_of n r q) (neg_ℤ (coef_at r n))

top_number : (a f v z q : ℤ) → v ≡ f +ℤ a *ℤ z → z ≤ℤ q ↔ (neg_ℤ a *ℤ z) ≤ℤ f → (pos 0 ≤ℤ v) ↔ (z ≤ℤ q)
top_number a f v z q e told = (
  (λ h.
      let m : (neg_ℤ a *ℤ z) ≤ℤ f = simp expand (omega (arith, linear, e, h)) in
      told.1 m),
  (λ h.
      let m = simp expand at (told.0 h) in
      omega (arith, linear, e, m)),
)

upward : (a : ℤ) → a <ℤ pos 0 → pos 0 <ℤ neg_ℤ a
upward a h = omega (arith, linear, h)

pub top_end : (n : ℕ) (r : Row) (q : List ℤ) (z : ℤ) → IsTop n r → length q ≡ n → HoldsRow r (q ++ z ∷ []) ↔ (z ≤ℤ top_of n r q)
top_end n r q z top l =
    let b = bound_holds r (q ++ z ∷ []) top.bound in
    let told = top_number (coef_at r n) (rest_of n r q) (value_at r (q ++ z ∷ [])) z (top_of n r q) (value_behind n r q z top.formed.width l)
    (at_most_floor (rest_of n r q) (neg_ℤ (coef_at r n)) z (upward (coef_at r n) top.falls)) in
    ((λ h. told.0 (b.0 h)), (λ h. b.1 (told.1 h)))

-- ---- other bounds
-- one that holds at a number holds at all greater ones
pub rising_up : (n : ℕ) (r : Row) (q : List ℤ) (z c : ℤ) → IsWellFormed (n + 1) r → IsRising n r → length q ≡ n → z ≤ℤ c
    → HoldsRow r (q ++ z ∷ []) → HoldsRow r (q ++ c ∷ [])
rising_up n r q z c formed rising l low h =
    (bound_holds r (q ++ c ∷ []) rising.bound).1
    (by (coef_at r n) (rest_of n r q) (value_at r (q ++ z ∷ [])) (value_at r (q ++ c ∷ [])) (value_behind n r q z formed.width l)
    (value_behind n r q c formed.width l) (*ℤ-≤ℤ (coef_at r n) z c rising.rises low) ((bound_holds r (q ++ z ∷ []) rising.bound).0 h))
  where
    by : (a f v w : ℤ) → v ≡ f +ℤ a *ℤ z → w ≡ f +ℤ a *ℤ c → (a *ℤ z) ≤ℤ (a *ℤ c) → pos 0 ≤ℤ v → pos 0 ≤ℤ w
    by a f v w e g m h = omega (arith, linear, e, g, m, h)

-- one without the last number that holds at a number holds at all
pub flat_same : (n : ℕ) (r : Row) (q : List ℤ) (z c : ℤ) → IsWellFormed (n + 1) r → IsRising n r → ¬ IsSteep n r → length q ≡ n
    → HoldsRow r (q ++ z ∷ []) → HoldsRow r (q ++ c ∷ [])
flat_same n r q z c formed rising flat l h =
    let none : coef_at r n ≡ pos 0 = elim (cases_ℤ (coef_at r n) (pos 0)) [
      | inl below ↦ let m = rising.rises in absurd (omega (arith, linear, m, below))
      | inr other ↦ elim other [
        | inl same ↦ same
        | inr above ↦ absurd (flat (record { bound = rising.bound; rises = above }))
      ]
    ] in
    (bound_holds r (q ++ c ∷ []) rising.bound).1
    (by (coef_at r n) (rest_of n r q) (value_at r (q ++ z ∷ [])) (value_at r (q ++ c ∷ [])) (value_behind n r q z formed.width l)
    (value_behind n r q c formed.width l) none ((bound_holds r (q ++ z ∷ []) rising.bound).0 h))
  where
    by : (a f v w : ℤ) → v ≡ f +ℤ a *ℤ z → w ≡ f +ℤ a *ℤ c → a ≡ pos 0 → pos 0 ≤ℤ v → pos 0 ≤ℤ w
    by a f v w e g none h =
        let m = ap (λ t. t *ℤ z) none in
        let k = ap (λ t. t *ℤ c) none in
        omega (arith, linear, e, g, m, k, h)

-- one from below holds far up
pub steep_far : (n : ℕ) (r : Row) (q : List ℤ) → IsWellFormed (n + 1) r → IsSteep n r → length q ≡ n
    → (e : ℤ) × ((z : ℤ) → e ≤ℤ z → HoldsRow r (q ++ z ∷ []))
steep_far n r q formed steep l = (
  pos (unsigned_abs (rest_of n r q)),
  λ z low. (bound_holds r (q ++ z ∷ []) steep.bound).1
      (by (coef_at r n) (rest_of n r q) z (value_at r (q ++ z ∷ [])) (value_behind n r q z formed.width l) steep.rises low),
)
  where
    by : (a f z v : ℤ) → v ≡ f +ℤ a *ℤ z → pos 0 <ℤ a → pos (unsigned_abs f) ≤ℤ z → pos 0 ≤ℤ v
    by a f z v e up low =
        let up' : pos 1 ≤ℤ a = omega (arith, linear, up) in
        let some : pos 0 ≤ℤ z = omega (arith, linear, low) in
        let m = simp expand at (*ℤ-≤ℤ z (pos 1) a some up') in
        simp expand (omega (arith, linear, e, m, low))

-- ---- congruences
divides_on : (k : ℤ) (a f p z j v w : ℤ) → divide.Divides k p → v ≡ f +ℤ a *ℤ z → w ≡ f +ℤ a *ℤ (z +ℤ p *ℤ j) → divide.Divides k v → divide.Divides k w
divides_on k a f p z j v w part e g h =
    let e' = simp expand at e in
    let g' = simp expand at g in
    Divides-same k (v +ℤ p *ℤ (a *ℤ j)) w (simp expand (omega (arith, linear, e', g')))
    (Divides-+ℤ k v (p *ℤ (a *ℤ j)) h (Divides-*ℤ k p (a *ℤ j) part))

-- it holds at numbers that are as much apart as a multiple of its modulus
pub congruence_on : (n : ℕ) (r : Row) (q : List ℤ) (p z j : ℤ) → IsWellFormed (n + 1) r → IsCongruence r → divide.Divides r.k p → length q ≡ n
    → HoldsRow r (q ++ z ∷ []) → HoldsRow r (q ++ (z +ℤ p *ℤ j) ∷ [])
congruence_on n r q p z j formed (inl is) part l h =
    subst (λ k. HoldsValue k r.k (value_at r (q ++ (z +ℤ p *ℤ j) ∷ []))) (sym is)
    (divides_on r.k (coef_at r n) (rest_of n r q) p z j (value_at r (q ++ z ∷ [])) (value_at r (q ++ (z +ℤ p *ℤ j) ∷ [])) part
    (value_behind n r q z formed.width l) (value_behind n r q (z +ℤ p *ℤ j) formed.width l)
    (subst (λ k. HoldsValue k r.k (value_at r (q ++ z ∷ []))) is h))
congruence_on n r q p z j formed (inr is) part l h =
    subst (λ k. HoldsValue k r.k (value_at r (q ++ (z +ℤ p *ℤ j) ∷ []))) (sym is)
    (λ divides. subst (λ k. HoldsValue k r.k (value_at r (q ++ z ∷ []))) is h
    (divides_on r.k (coef_at r n) (rest_of n r q) p (z +ℤ p *ℤ j) (neg_ℤ j) (value_at r (q ++ (z +ℤ p *ℤ j) ∷ [])) (value_at r (q ++ z ∷ [])) part
    (value_behind n r q (z +ℤ p *ℤ j) formed.width l)
    (value_behind n r q z formed.width l ∙ ap (λ t. rest_of n r q +ℤ coef_at r n *ℤ t) (back p z j)) divides))
  where
    back : (p z j : ℤ) → z ≡ (z +ℤ p *ℤ j) +ℤ p *ℤ neg_ℤ j
    back p z j = simp expand (omega (arith, linear))

-- so do all congruences of a case
pub fits_on : (n : ℕ) (c : CaseView) (q : List ℤ) → IsCase n c → length q ≡ n → (z j : ℤ) → Fits c q z → Fits c q (z +ℤ c.period *ℤ j)
fits_on n c q case l z j fits k d inside is =
    congruence_on n (get_or c.others k d) q c.period z j (case.others k d inside).formed is (case.divides k d inside is) l (fits k d inside is)

-- ---- rows of a list
-- bounds from below hold far up, all of them
pub all_far : (n : ℕ) (rows : List Row) (q : List ℤ) → All (IsOther n) rows → length q ≡ n
    → (e : ℤ) × ((z : ℤ) → e ≤ℤ z → All (λ r. IsSteep n r → HoldsRow r (q ++ z ∷ [])) rows)
unfolding steep_far
all_far n [] q others l = (pos 0, λ z low. All-nil (λ r. IsSteep n r → HoldsRow r (q ++ z ∷ [])))
all_far n (r ∷ rows) q others l =
    let rest = all_far n rows q (All-tail (IsOther n) r rows others) l in
    let formed = (All-head (IsOther n) r rows others).formed in
    let far = pos (unsigned_abs (rest_of n r q)) in (
      far +ℤ pos (unsigned_abs rest.0),
      λ z low. All-cons (λ s. IsSteep n s → HoldsRow s (q ++ z ∷ [])) r rows
          (λ steep. (steep_far n r q formed steep l).1 z (first (rest_of n r q) rest.0 z low)) (rest.1 z (second (rest_of n r q) rest.0 z low)),
    )
  where
    first : (f e z : ℤ) → (pos (unsigned_abs f) +ℤ pos (unsigned_abs e)) ≤ℤ z → pos (unsigned_abs f) ≤ℤ z
    first f e z low = omega (arith, linear, low)

    second : (f e z : ℤ) → (pos (unsigned_abs f) +ℤ pos (unsigned_abs e)) ≤ℤ z → e ≤ℤ z
    second f e z low = omega (arith, linear, low)
