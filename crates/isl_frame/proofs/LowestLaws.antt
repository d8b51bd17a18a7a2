-- Equalities in lowest terms.
use Rattle.std.proofs.Common.{◌≡◌, ◌≢◌, ◌↔◌, ◌∙◌, refl, sym, ap, subst, arith, ℕ, zero, suc, ◌+◌, ◌-◌, ◌^◌, ◌<◌, length}
use Rattle.std.proofs.Common.{ℤ, pos, negsuc, neg_ℤ, ◌*ℤ◌, ◌<ℤ◌, List, [], ◌∷◌, ◌++◌, get_or}
use Rattle.std.specs.List.{All, remove}
use Rattle.std.proofs.lemmas.List.Elements.{All-append, All-cons, All-head, All-nil, All-tail}
use Rattle.isl_math.specs.Divide as divide
use Rattle.isl_math.specs.Divide.{floor_div}
use Rattle.isl_math.specs.Dot.{scaled}
use Rattle.isl_math.specs.Gcd.{content}
use Rattle.isl_math.specs.Order.{abs_of, sign_of}
use Rattle.isl_math.proofs.DivideLaws as divide_laws
use Rattle.isl_math.proofs.DivideLaws.{exact_quotient, Divides-*ℤ, Divides-same, Divides-neg_ℤ}
use Rattle.isl_math.proofs.GcdLaws.{IsContentOf-content}
use Rattle.isl_math.proofs.Ring.{expand, linear}
use Rattle.isl_meter.specs.Gauge.{Gauge}
use Rattle.isl_piece.specs.declared.row.RowKind.{RowKind}
use Rattle.isl_piece.specs.declared.row.RowKind.TheVariants.{Zero, AtLeast, Divides, NotDivides}
use Rattle.isl_piece.specs.declared.row.Row.{Row}
use Rattle.isl_piece.specs.Normal.{normal_form, normal_row, upright, Always, Never, Kept, Verdict}
use Rattle.isl_piece.specs.Numbers.{divided, lead}
use Rattle.isl_piece.specs.Row.{coef_at, HasModulus, HoldsRow, IsRowUpTo, IsRowWithin, IsWellFormed}
use Rattle.isl_piece.proofs.ContentLaws.{content-divided, content-scaled, scaled_one, scaled_scaled, sign_squared}
use Rattle.isl_piece.proofs.NormalCases.{content_positive, normal_zero_by}
use Rattle.isl_piece.proofs.NormalSteps.{lead-divided}
use Rattle.isl_piece.proofs.PointLaws.{HoldsVerdict, normal_row_holds}
use Rattle.isl_piece.proofs.RowMagnitudes.{up_to_limit, within_limit}
use Rattle.isl_piece.proofs.ShapeLaws.{IfKept, normal_row_up_to, normal_row_well_formed}
use Rattle.isl_frame.specs.Frame.{isolated, IsLowest, IsSolved}
use Rattle.isl_frame.proofs.SolvedLaws.{without_last}

-- ---- a number of a list that is not 0
some_divided : (g : ℤ) (xs : List ℤ) (i : ℕ) → pos 0 <ℤ g → All (divide.Divides g) xs → get_or xs i (pos 0) ≢ pos 0
    → get_or (divided g xs) i (pos 0) ≢ pos 0
some_divided g [] i p h n = n
some_divided g (x ∷ xs) zero p h n = λ e. n (sym (exact_quotient g x p (All-head (divide.Divides g) x xs h)) ∙ by (floor_div x g) e)
  where
    by : (q : ℤ) → q ≡ pos 0 → g *ℤ q ≡ pos 0
    by q e = let a = simp expand at (ap (λ w. g *ℤ w) e) in omega (arith, linear, a)
some_divided g (x ∷ xs) (suc i) p h n = some_divided g xs i p (All-tail (divide.Divides g) x xs h) n

some_scaled : (s : ℤ) (xs : List ℤ) (i : ℕ) → s *ℤ s ≡ pos 1 → get_or xs i (pos 0) ≢ pos 0 → get_or (scaled s xs) i (pos 0) ≢ pos 0
some_scaled s [] i e n = n
some_scaled s (x ∷ xs) zero e n = λ z. n (by z)
  where
    by : s *ℤ x ≡ pos 0 → x ≡ pos 0
    by z =
        let a = simp expand at (ap (λ w. w *ℤ x) e) in
        let b = simp expand at (ap (λ w. s *ℤ w) z) in
        omega (arith, linear, a, b)
some_scaled s (x ∷ xs) (suc i) e n = some_scaled s xs i e n

-- ---- what a number of a list is divided by
part_divides : (g : ℤ) (xs : List ℤ) (i : ℕ) → pos 0 <ℤ g → All (divide.Divides g) xs
    → divide.Divides (get_or (divided g xs) i (pos 0)) (get_or xs i (pos 0))
part_divides g [] i p h = divide_laws.Divides_self (get_or [] i (pos 0))
part_divides g (x ∷ xs) zero p h = record {
  quotient = g;
  is = by (floor_div x g) (exact_quotient g x p (All-head (divide.Divides g) x xs h));
}
  where
    by : (q : ℤ) → g *ℤ q ≡ x → x ≡ q *ℤ g
    by q e = simp expand (omega (arith, linear, e))
part_divides g (x ∷ xs) (suc i) p h = part_divides g xs i p (All-tail (divide.Divides g) x xs h)

signed_divides : (s : ℤ) (xs : List ℤ) (i : ℕ) → s *ℤ s ≡ pos 1 → divide.Divides (get_or (scaled s xs) i (pos 0)) (get_or xs i (pos 0))
signed_divides s [] i e = divide_laws.Divides_self (get_or [] i (pos 0))
signed_divides s (x ∷ xs) zero e = record { quotient = s; is = by }
  where
    by : x ≡ (s *ℤ x) *ℤ s
    by = let a = simp expand at (ap (λ w. w *ℤ x) e) in simp expand (omega (arith, linear, a))
signed_divides s (x ∷ xs) (suc i) e = signed_divides s xs i e

-- ---- a normal equality
-- it is an equality, it names the column that was named, by a divisor of what it was named by, and nothing but 1 divides its coefficients
pub record IsLeast (variables : ℕ) (row r : Row) : Type 0 where
  pub kind : r.kind ≡ Zero
  pub names : coef_at r variables ≢ pos 0
  pub divides : divide.Divides (coef_at r variables) (coef_at row variables)
  pub least : content r.coefs ≡ pos 1

kept_least : (variables : ℕ) (r : Row) → r.kind ≡ Zero → coef_at r variables ≢ pos 0 → IfKept (IsLeast variables r) (normal_row r)
kept_least variables r is some = by r.kind is
  where
    least : content r.coefs ≢ pos 0
        → IsLeast variables r (upright (divided (content r.coefs) r.coefs) (floor_div r.constant (content r.coefs)))
    least n =
        let parts = divided (content r.coefs) r.coefs in
        let s = sign_of (lead parts) in
        let one = sign_squared (lead parts) (lead-divided r.coefs n) in
        let positive = content_positive r.coefs n in
        let common = (IsContentOf-content r.coefs).common in
        record {
          kind = refl;
          names = some_scaled s parts variables one (some_divided (content r.coefs) r.coefs variables positive common some);
          divides = divide_laws.Divides_trans (get_or (scaled s parts) variables (pos 0)) (get_or parts variables (pos 0)) (coef_at r variables)
              (signed_divides s parts variables one) (part_divides (content r.coefs) r.coefs variables positive common);
          least = content-scaled s parts one ∙ content-divided r.coefs n;
        }

    by : (kind : RowKind) → kind ≡ Zero → IfKept (IsLeast variables r) (normal_form kind r.coefs r.constant r.k)
    by Zero e = normal_zero_by (IfKept (IsLeast variables r)) r.coefs r.constant (λ e f. tt) (λ e f. tt) (λ e f. tt)
        (λ n d. least n)
    by AtLeast e = cc
    by Divides e = cc
    by NotDivides e = cc

module _ (variables : ℕ) (row normal : Row) (formed : IsWellFormed (variables + 1) row) (is : normal_row row ≡ Kept normal) where
  pub normal_least : row.kind ≡ Zero → coef_at row variables ≢ pos 0 → IsLeast variables row normal
  normal_least zero_kind some = subst (IfKept (IsLeast variables row)) is (kept_least variables row zero_kind some)

  pub normal_formed : IsWellFormed (variables + 1) normal
  normal_formed = subst (IfKept (IsWellFormed (variables + 1))) is (normal_row_well_formed (variables + 1) row formed)

  pub normal_within : (g : Gauge) → IsRowWithin g row → IsRowWithin g normal
  normal_within g within = within_limit g normal (subst (IfKept (IsRowUpTo (2 ^ g.bits - 1))) is
      (normal_row_up_to (2 ^ g.bits - 1) row formed.modulus (up_to_limit g row within)))

-- ---- the answer
pub normal_solved : (variables : ℕ) (row normal entry : Row) → IsWellFormed (variables + 1) row → normal_row row ≡ Kept normal
    → IsSolved variables normal entry → IsSolved variables row entry
normal_solved variables row normal entry formed is solved = record {
  formed = solved.formed;
  divides = solved.divides;
  points = λ point x long.
      let same : HoldsRow normal (point ++ x ∷ []) ↔ HoldsRow row (point ++ x ∷ []) =
      subst (λ (v : Verdict). HoldsVerdict v (point ++ x ∷ []) ↔ HoldsRow row (point ++ x ∷ [])) is
      (normal_row_holds row (point ++ x ∷ []) formed.modulus) in
      let told = solved.points point x long in
      ((λ h. told.0 (same.1 h)), (λ h. same.0 (told.1 h)));
}

-- an equality that names a column fails somewhere
pub never_always : (variables : ℕ) (row : Row) → IsWellFormed (variables + 1) row → row.kind ≡ Zero → coef_at row variables ≢ pos 0
    → ¬ (normal_row row ≡ Always)
never_always variables row formed is some = by row.kind is
  where
    zero_divides : (g z : ℤ) → g ≡ pos 0 → divide.Divides g z → z ≡ pos 0
    zero_divides g z e d = let q = ap (λ w. w *ℤ d.quotient) e in let f = d.is in omega (arith, linear, q, f)

    none : content row.coefs ≡ pos 0 → coef_at row variables ≡ pos 0
    none e =
        let low : variables < length row.coefs = let w = formed.width in omega (arith, w) in
        zero_divides (content row.coefs) (coef_at row variables) e ((IsContentOf-content row.coefs).common variables (pos 0) low)

    by : (kind : RowKind) → kind ≡ Zero → ¬ (normal_form kind row.coefs row.constant row.k ≡ Always)
    by Zero e = normal_zero_by (λ v. ¬ (v ≡ Always)) row.coefs row.constant (λ e f _. some (none e)) (λ e f n. cc)
        (λ e f n. cc) (λ e f n. cc)
    by AtLeast e = cc
    by Divides e = cc
    by NotDivides e = cc

-- one that never holds
pub never_holds : (row : Row) (point : List ℤ) → HasModulus row.kind row.k → normal_row row ≡ Never → ¬ HoldsRow row point
never_holds row point modulus is h =
    subst (λ (v : Verdict). HoldsVerdict v point) is ((normal_row_holds row point modulus).1 h)

-- ---- what it tells
of_size : (d z : ℤ) → divide.Divides d (abs_of z) → divide.Divides d z
of_size d (pos n) h = h
of_size d (negsuc n) h = Divides-neg_ℤ d (abs_of (negsuc n)) h

all_scaled : (d s : ℤ) (xs : List ℤ) → All (divide.Divides d) xs → All (divide.Divides d) (scaled s xs)
all_scaled d s [] h = All-nil (divide.Divides d)
all_scaled d s (x ∷ xs) h =
    All-cons (divide.Divides d) (s *ℤ x) (scaled s xs)
    (Divides-same d (x *ℤ s) (s *ℤ x) (swap x) (Divides-*ℤ d x s (All-head (divide.Divides d) x xs h)))
    (all_scaled d s xs (All-tail (divide.Divides d) x xs h))
  where
    swap : (x : ℤ) → x *ℤ s ≡ s *ℤ x
    swap x = simp expand (omega (arith, linear))

sign_of_opposite : (z : ℤ) → z ≢ pos 0 → sign_of (neg_ℤ z) *ℤ sign_of (neg_ℤ z) ≡ pos 1
sign_of_opposite (pos zero) n = absurd (n refl)
sign_of_opposite (pos (suc m)) n = refl
sign_of_opposite (negsuc m) n = refl

-- the modulus of what an equality tells
pub isolated_divides : (variables : ℕ) (r entry : Row) (z : ℤ) → entry ≡ isolated variables r → divide.Divides (coef_at r variables) z
    → divide.Divides entry.k z
isolated_divides variables r entry z is d = subst (λ (e : Row). divide.Divides e.k z) (sym is) (by (coef_at r variables) d)
  where
    turned : (a c q : ℤ) → c ≡ neg_ℤ a → z ≡ c *ℤ q → z ≡ a *ℤ neg_ℤ q
    turned a c q h e = let b = simp expand at (ap (λ w. w *ℤ q) h) in simp expand (omega (arith, linear, b, e))

    by : (c : ℤ) → divide.Divides c z → divide.Divides (abs_of c) z
    by (pos n) d = d
    by (negsuc n) d = record { quotient = neg_ℤ d.quotient; is = turned (abs_of (negsuc n)) (negsuc n) d.quotient refl d.is }

-- nothing divides the modulus and all coefficients of what a normal equality tells
pub isolated_lowest : (variables : ℕ) (r entry : Row) → IsWellFormed (variables + 1) r → coef_at r variables ≢ pos 0
    → content r.coefs ≡ pos 1 → entry ≡ isolated variables r → IsLowest entry
isolated_lowest variables r entry formed some one is = subst IsLowest (sym is) (λ d h k.
    let last = coef_at r variables in
    let s = sign_of (neg_ℤ last) in
    let rest = remove r.coefs variables in
    let back : scaled s (scaled s rest) ≡ rest =
    scaled_scaled s s rest ∙ ap (λ (t : ℤ). scaled t rest) (sign_of_opposite last some) ∙ scaled_one rest in
    let front : All (divide.Divides d) rest = subst (All (divide.Divides d)) back (all_scaled d s (scaled s rest) k) in
    let all : All (divide.Divides d) r.coefs =
    subst (All (divide.Divides d)) (sym (without_last r.coefs variables formed.width))
    (All-append (divide.Divides d) rest (last ∷ []) front (All-cons (divide.Divides d) last [] (of_size d last h) (All-nil (divide.Divides d)))) in
    subst (divide.Divides d) one ((IsContentOf-content r.coefs).greatest d all))
