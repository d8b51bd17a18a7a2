-- Columns that an equality determines.
use Rattle.std.proofs.Common.{◌≡◌, ◌≢◌, ◌↔◌, ◌⊎◌, inl, inr, refl, sym, ap, ◌∙◌, arith, ℕ, zero, suc, ◌+◌}
use Rattle.std.proofs.Common.{ℤ, pos, negsuc, neg_ℤ, ◌+ℤ◌, ◌*ℤ◌, ◌<ℤ◌, List, [], ◌∷◌, ◌++◌, length, get_or}
use Rattle.std.specs.List.{remove}
use Rattle.isl_math.specs.Divide as divide
use Rattle.isl_math.specs.Divide.{floor_div}
use Rattle.isl_math.specs.Dot.{dot, scaled}
use Rattle.isl_math.specs.Order.{abs_of, sign_of}
use Rattle.isl_math.proofs.DivideLaws.{exact_quotient, quotient-from_Divides}
use Rattle.isl_math.proofs.DotLaws.{dot-append, dot-scaled}
use Rattle.isl_math.proofs.Ring.{expand, linear}
use Rattle.isl_piece.specs.declared.row.RowKind.{RowKind}
use Rattle.isl_piece.specs.declared.row.RowKind.TheVariants.{Zero, Divides}
use Rattle.isl_piece.specs.declared.row.Row.{Row}
use Rattle.isl_piece.specs.Row.{coef_at, value_at, HoldsValue, IsWellFormed}
use Rattle.isl_frame.specs.Frame.{isolated, IsSolved}

-- ---- signs
signs : (c : ℤ) → c ≢ pos 0
    → ((sign_of (neg_ℤ c) ≡ pos 1) × (c ≡ neg_ℤ (abs_of c))) ⊎ ((sign_of (neg_ℤ c) ≡ negsuc 0) × (c ≡ abs_of c))
signs (pos zero) n = absurd (n refl)
signs (pos (suc m)) n = inr (refl, refl)
signs (negsuc m) n = inl (refl, refl)

size_positive : (c : ℤ) → c ≢ pos 0 → pos 0 <ℤ abs_of c
size_positive (pos zero) n = absurd (n refl)
size_positive (pos (suc m)) n = omega (arith, linear)
size_positive (negsuc m) n = omega (arith, linear)

determined : (c s k f x : ℤ) → ((s ≡ pos 1) × (c ≡ neg_ℤ k)) ⊎ ((s ≡ negsuc 0) × (c ≡ k)) → pos 0 <ℤ k
    → (f +ℤ c *ℤ x ≡ pos 0) ↔ (divide.Divides k (s *ℤ f) × (x ≡ floor_div (s *ℤ f) k))
determined c s k f x sign p = (
  (λ e.
      let d : divide.Divides k (s *ℤ f) = record { quotient = x; is = by sign e } in
      (d, sym (quotient-from_Divides k (s *ℤ f) p d))),
  (λ h. back sign (exact_quotient k (s *ℤ f) p h.0) h.1),
)
  where
    by : ((s ≡ pos 1) × (c ≡ neg_ℤ k)) ⊎ ((s ≡ negsuc 0) × (c ≡ k)) → f +ℤ c *ℤ x ≡ pos 0 → s *ℤ f ≡ k *ℤ x
    by (inl h) e =
        let a = ap (λ w. w *ℤ f) h.0 in
        let b = simp expand at (ap (λ w. w *ℤ x) h.1) in
        simp expand (omega (arith, linear, a, b, e))
    by (inr h) e =
        let a = simp expand at (ap (λ w. w *ℤ f) h.0) in
        let b = ap (λ w. w *ℤ x) h.1 in
        simp expand (omega (arith, linear, a, b, e))

    back : ((s ≡ pos 1) × (c ≡ neg_ℤ k)) ⊎ ((s ≡ negsuc 0) × (c ≡ k)) → k *ℤ floor_div (s *ℤ f) k ≡ s *ℤ f → x ≡ floor_div (s *ℤ f) k
        → f +ℤ c *ℤ x ≡ pos 0
    back (inl h) e at =
        let a = ap (λ w. w *ℤ f) h.0 in
        let b = simp expand at (ap (λ w. w *ℤ x) h.1) in
        let q = ap (λ w. k *ℤ w) at in
        omega (arith, linear, a, b, e, q)
    back (inr h) e at =
        let a = simp expand at (ap (λ w. w *ℤ f) h.0) in
        let b = ap (λ w. w *ℤ x) h.1 in
        let q = ap (λ w. k *ℤ w) at in
        omega (arith, linear, a, b, e, q)

-- ---- the last of a list
pub without_last : (xs : List ℤ) (n : ℕ) → length xs ≡ n + 1 → xs ≡ remove xs n ++ get_or xs n (pos 0) ∷ []
without_last [] n e = absurd (omega (arith, e))
without_last (x ∷ []) zero e = refl
without_last (x ∷ y ∷ xs) zero e = absurd (omega (arith, e))
without_last (x ∷ xs) (suc n) e = ap (λ (ys : List ℤ). x ∷ ys) (without_last xs n (omega (arith, e)))

pub remove_long : (xs : List ℤ) (n : ℕ) → length xs ≡ n + 1 → length (remove xs n) ≡ n
remove_long [] n e = absurd (omega (arith, e))
remove_long (x ∷ []) zero e = refl
remove_long (x ∷ y ∷ xs) zero e = absurd (omega (arith, e))
remove_long (x ∷ xs) (suc n) e = ap suc (remove_long xs n (omega (arith, e)))

scaled_long : (m : ℤ) (xs : List ℤ) → length (scaled m xs) ≡ length xs
scaled_long m [] = refl
scaled_long m (x ∷ xs) = ap suc (scaled_long m xs)

times_sum : (s a b x y : ℤ) → x ≡ s *ℤ a → y ≡ s *ℤ b → x +ℤ y ≡ s *ℤ (a +ℤ b)
times_sum s a b x y e f = rw (e, f) (simp expand (omega (arith, linear)))

-- ---- a row whose last column stands apart
-- the number of the other columns' form
abbrev pub rest_at : ℕ → Row → List ℤ → ℤ
rest_at variables r point = dot (remove r.coefs variables) point +ℤ r.constant

pub value_apart : (variables : ℕ) (r : Row) (point : List ℤ) (x : ℤ) → IsWellFormed (variables + 1) r → length point ≡ variables
    → value_at r (point ++ x ∷ []) ≡ rest_at variables r point +ℤ coef_at r variables *ℤ x
value_apart variables r point x formed long =
    let rest = remove r.coefs variables in
    let last = coef_at r variables in
    let n : length rest ≡ length point = remove_long r.coefs variables formed.width ∙ sym long in
    let whole : dot r.coefs (point ++ x ∷ []) ≡ dot rest point +ℤ (last *ℤ x +ℤ pos 0) =
    ap (λ (cs : List ℤ). dot cs (point ++ x ∷ [])) (without_last r.coefs variables formed.width)
    ∙ dot-append rest (last ∷ []) point (x ∷ []) n in
    by (dot r.coefs (point ++ x ∷ [])) (dot rest point) (last *ℤ x) r.constant whole
  where
    by : (w d p c : ℤ) → w ≡ d +ℤ (p +ℤ pos 0) → w +ℤ c ≡ d +ℤ c +ℤ p
    by w d p c e = omega (arith, linear, e)

pub value_isolated : (variables : ℕ) (r : Row) (point : List ℤ)
    → value_at (isolated variables r) point ≡ sign_of (neg_ℤ (coef_at r variables)) *ℤ rest_at variables r point
value_isolated variables r point =
    let s = sign_of (neg_ℤ (coef_at r variables)) in
    let rest = remove r.coefs variables in
    times_sum s (dot rest point) r.constant (dot (scaled s rest) point) (s *ℤ r.constant) (dot-scaled s rest point) refl

pub isolated_formed : (variables : ℕ) (r : Row) → IsWellFormed (variables + 1) r → coef_at r variables ≢ pos 0
    → IsWellFormed variables (isolated variables r)
isolated_formed variables r formed some = record {
  width = scaled_long (sign_of (neg_ℤ (coef_at r variables))) (remove r.coefs variables) ∙ remove_long r.coefs variables formed.width;
  modulus = size_positive (coef_at r variables) some;
}

-- ---- the answer
pub row_solved : (variables : ℕ) (row : Row) → IsWellFormed (variables + 1) row → row.kind ≡ Zero → coef_at row variables ≢ pos 0
    → (entry : Row) → entry ≡ isolated variables row → IsSolved variables row entry
row_solved variables row formed zero_kind some entry is = rw is (record {
  formed = isolated_formed variables row formed some;
  divides = refl;
  points = λ point x long.
      let c = coef_at row variables in
      let f = rest_at variables row point in
      let told = determined c (sign_of (neg_ℤ c)) (abs_of c) f x (signs c some) (size_positive c some) in
      moved row.kind row.k (value_at row (point ++ x ∷ [])) (f +ℤ c *ℤ x) (abs_of c) (value_at (isolated variables row) point)
      (sign_of (neg_ℤ c) *ℤ f) x zero_kind (value_apart variables row point x formed long) (value_isolated variables row point) told;
})
  where
    moved : (a : RowKind) (m v w k u y x : ℤ) → a ≡ Zero → v ≡ w → u ≡ y
        → (w ≡ pos 0) ↔ (divide.Divides k y × (x ≡ floor_div y k))
        → HoldsValue a m v ↔ (HoldsValue Divides k u × (x ≡ floor_div u k))
    moved a m v w k u y x e f i t = rw (e, f, i) t
