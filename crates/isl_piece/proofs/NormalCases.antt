-- The normal form of a row, case by case.
use Rattle.std.proofs.Common.{◌≡◌, ◌≢◌, ◌⊎◌, inl, inr, refl, sym, arith, ℤ, pos, ◌≤ℤ◌, ◌<ℤ◌, List, ◌∷◌, Bool, true, false, cond, subst, int_lt}
use Rattle.std.specs.Ordering.{int_eq, int_cmp, is_lt}
use Rattle.std.specs.Cmp.Lexicographic.{slice_cmp}
use Rattle.std.proofs.lemmas.Bool.{cases_Bool}
use Rattle.std.proofs.lemmas.Bool.Decides.{Decides-int_eq}
use Rattle.std.proofs.lemmas.List.Elements.{All-head}
use Rattle.std.proofs.lemmas.Int.{ints}
use Rattle.isl_math.specs.Divide.{floor_div, floor_mod, Divides}
use Rattle.isl_math.specs.Gcd.{content}
use Rattle.isl_math.proofs.Ring.{linear}
use Rattle.isl_math.proofs.DivideLaws.{divisor_positive, Divides-from_mod, mod-from_Divides}
use Rattle.isl_math.proofs.GcdLaws.{IsContentOf-content}
use Rattle.isl_piece.specs.declared.row.Row.{Row}
use Rattle.isl_piece.specs.Normal.{Verdict, Always, Never, Kept}
use Rattle.isl_piece.specs.Numbers.{divided, reduced, is_multiple}
use Rattle.isl_piece.specs.Normal.{normal_zero, normal_at_least, normal_divides, upright, bound, congruence, lesser, opposite_row, numbers_of}
use Rattle.isl_piece.proofs.ContentLaws.{int_eq-true, int_eq-false, zero_cases}

-- ---- tests
pub is_multiple-true : (g z : ℤ) → pos 0 <ℤ g → Divides g z → is_multiple g z ≡ true
is_multiple-true g z p d = int_eq-true (floor_mod z g) (pos 0) (mod-from_Divides g z p d)

pub is_multiple-false : (g z : ℤ) → pos 0 <ℤ g → ¬ Divides g z → is_multiple g z ≡ false
is_multiple-false g z p n = int_eq-false (floor_mod z g) (pos 0) (λ e. n (Divides-from_mod g z p e))

pub divides_cases : (g z : ℤ) → pos 0 <ℤ g → Divides g z ⊎ (¬ Divides g z)
divides_cases g z p = elim (zero_cases (floor_mod z g)) [
  | inl e ↦ inl (Divides-from_mod g z p e)
  | inr n ↦ inr (λ d. n (mod-from_Divides g z p d))
]

pub negative_cases : (z : ℤ) → (z <ℤ pos 0) ⊎ (pos 0 ≤ℤ z)
negative_cases z = grind (arith, linear)

pub content_positive : (xs : List ℤ) → content xs ≢ pos 0 → pos 0 <ℤ content xs
content_positive xs n = by (content xs) n (IsContentOf-content xs).not_negative
  where
    by : (g : ℤ) → g ≢ pos 0 → pos 0 ≤ℤ g → pos 0 <ℤ g
    by g n h = omega (arith, linear)

-- ---- a form that is 0
pub normal_zero-always : (cs : List ℤ) (c : ℤ) → content cs ≡ pos 0 → c ≡ pos 0 → normal_zero cs c ≡ Always
unfolding normal_zero
normal_zero-always cs c e f = rw (int_eq-true (content cs) (pos 0) e, int_eq-true c (pos 0) f) refl

pub normal_zero-never : (cs : List ℤ) (c : ℤ) → content cs ≡ pos 0 → c ≢ pos 0 → normal_zero cs c ≡ Never
unfolding normal_zero
normal_zero-never cs c e n = rw (int_eq-true (content cs) (pos 0) e, int_eq-false c (pos 0) n) refl

pub normal_zero-apart : (cs : List ℤ) (c : ℤ) → content cs ≢ pos 0 → ¬ Divides (content cs) c → normal_zero cs c ≡ Never
unfolding normal_zero
normal_zero-apart cs c n d = rw (int_eq-false (content cs) (pos 0) n, is_multiple-false (content cs) c (content_positive cs n) d) refl

pub normal_zero-kept : (cs : List ℤ) (c : ℤ) → content cs ≢ pos 0 → Divides (content cs) c → normal_zero cs c ≡ Kept (upright (divided (content cs) cs) (floor_div c (content cs)))
unfolding normal_zero
normal_zero-kept cs c n d = rw (int_eq-false (content cs) (pos 0) n, is_multiple-true (content cs) c (content_positive cs n) d) refl

-- what holds in each case holds of the verdict
pub normal_zero_by : (P : Verdict → Type 0) (cs : List ℤ) (c : ℤ)
    → (content cs ≡ pos 0 → c ≡ pos 0 → P Always)
    → (content cs ≡ pos 0 → c ≢ pos 0 → P Never)
    → (content cs ≢ pos 0 → ¬ Divides (content cs) c → P Never)
    → (content cs ≢ pos 0 → Divides (content cs) c → P (Kept (upright (divided (content cs) cs) (floor_div c (content cs)))))
    → P (normal_zero cs c)
normal_zero_by P cs c always never apart kept = elim (zero_cases (content cs)) [
  | inl e ↦ elim (zero_cases c) [
    | inl f ↦ subst P (sym (normal_zero-always cs c e f)) (always e f)
    | inr n ↦ subst P (sym (normal_zero-never cs c e n)) (never e n)
  ]
  | inr n ↦ elim (divides_cases (content cs) c (content_positive cs n)) [
    | inl d ↦ subst P (sym (normal_zero-kept cs c n d)) (kept n d)
    | inr m ↦ subst P (sym (normal_zero-apart cs c n m)) (apart n m)
  ]
]

-- ---- a form that is at least 0
pub int_lt-true : (x y : ℤ) → x <ℤ y → int_lt x y ≡ true
int_lt-true x y h = grind (arith, ints)

pub int_lt-false : (x y : ℤ) → y ≤ℤ x → int_lt x y ≡ false
int_lt-false x y h = grind (arith, ints)

pub normal_at_least-never : (cs : List ℤ) (c : ℤ) → content cs ≡ pos 0 → c <ℤ pos 0 → normal_at_least cs c ≡ Never
unfolding normal_at_least
normal_at_least-never cs c e h = rw (int_eq-true (content cs) (pos 0) e, int_lt-true c (pos 0) h) refl

pub normal_at_least-always : (cs : List ℤ) (c : ℤ) → content cs ≡ pos 0 → pos 0 ≤ℤ c → normal_at_least cs c ≡ Always
unfolding normal_at_least
normal_at_least-always cs c e h = rw (int_eq-true (content cs) (pos 0) e, int_lt-false c (pos 0) h) refl

pub normal_at_least-kept : (cs : List ℤ) (c : ℤ) → content cs ≢ pos 0 → normal_at_least cs c ≡ Kept (bound (divided (content cs) cs) (floor_div c (content cs)))
unfolding normal_at_least
normal_at_least-kept cs c n = rw (int_eq-false (content cs) (pos 0) n) refl

pub normal_at_least_by : (P : Verdict → Type 0) (cs : List ℤ) (c : ℤ)
    → (content cs ≡ pos 0 → c <ℤ pos 0 → P Never)
    → (content cs ≡ pos 0 → pos 0 ≤ℤ c → P Always)
    → (content cs ≢ pos 0 → P (Kept (bound (divided (content cs) cs) (floor_div c (content cs)))))
    → P (normal_at_least cs c)
normal_at_least_by P cs c never always kept = elim (zero_cases (content cs)) [
  | inl e ↦ elim (negative_cases c) [
    | inl h ↦ subst P (sym (normal_at_least-never cs c e h)) (never e h)
    | inr h ↦ subst P (sym (normal_at_least-always cs c e h)) (always e h)
  ]
  | inr n ↦ subst P (sym (normal_at_least-kept cs c n)) (kept n)
]

-- ---- a form that k divides
-- the content of k and the columns
abbrev pub common_part : List ℤ → ℤ → ℤ
common_part cs k = content (k ∷ reduced k cs)

pub common_part-positive : (cs : List ℤ) (k : ℤ) → pos 0 <ℤ k → pos 0 <ℤ common_part cs k
common_part-positive cs k p =
    let h = IsContentOf-content (k ∷ reduced k cs) in
    divisor_positive (common_part cs k) k p h.not_negative (All-head (Divides (common_part cs k)) k (reduced k cs) h.common)

-- the congruence, divided
abbrev pub divided_congruence : List ℤ → ℤ → ℤ → Row
divided_congruence cs c k = let g = common_part cs k in congruence (divided g (reduced k cs)) (floor_div (floor_mod c k) g) (floor_div k g)

pub normal_divides-never : (cs : List ℤ) (c k : ℤ) → pos 0 <ℤ k → ¬ Divides (common_part cs k) (floor_mod c k) → normal_divides cs c k ≡ Never
unfolding normal_divides
normal_divides-never cs c k p n = rw (is_multiple-false (common_part cs k) (floor_mod c k) (common_part-positive cs k p) n) refl

pub normal_divides-always : (cs : List ℤ) (c k : ℤ) → pos 0 <ℤ k → Divides (common_part cs k) (floor_mod c k) → floor_div k (common_part cs k) ≡ pos 1 → normal_divides cs c k ≡ Always
unfolding normal_divides
normal_divides-always cs c k p d e = rw (is_multiple-true (common_part cs k) (floor_mod c k) (common_part-positive cs k p) d, int_eq-true (floor_div k (common_part cs k)) (pos 1) e) refl

pub normal_divides-kept : (cs : List ℤ) (c k : ℤ) → pos 0 <ℤ k → Divides (common_part cs k) (floor_mod c k) → floor_div k (common_part cs k) ≢ pos 1 → normal_divides cs c k ≡ Kept (lesser (divided_congruence cs c k))
unfolding normal_divides
normal_divides-kept cs c k p d n = rw (is_multiple-true (common_part cs k) (floor_mod c k) (common_part-positive cs k p) d, int_eq-false (floor_div k (common_part cs k)) (pos 1) n) refl

pub normal_divides_by : (P : Verdict → Type 0) (cs : List ℤ) (c k : ℤ) → pos 0 <ℤ k
    → (¬ Divides (common_part cs k) (floor_mod c k) → P Never)
    → (Divides (common_part cs k) (floor_mod c k) → floor_div k (common_part cs k) ≡ pos 1 → P Always)
    → (Divides (common_part cs k) (floor_mod c k) → floor_div k (common_part cs k) ≢ pos 1 → P (Kept (lesser (divided_congruence cs c k))))
    → P (normal_divides cs c k)
normal_divides_by P cs c k p never always kept = elim (divides_cases (common_part cs k) (floor_mod c k) (common_part-positive cs k p)) [
  | inr n ↦ subst P (sym (normal_divides-never cs c k p n)) (never n)
  | inl d ↦ elim (cases_Bool (int_eq (floor_div k (common_part cs k)) (pos 1))) [
    | inl t ↦ let e = (Decides-int_eq (floor_div k (common_part cs k)) (pos 1)).0 t in subst P (sym (normal_divides-always cs c k p d e)) (always d e)
    | inr f ↦ let n : floor_div k (common_part cs k) ≢ pos 1 = λ e. let t = int_eq-true (floor_div k (common_part cs k)) (pos 1) e in cc in subst P (sym (normal_divides-kept cs c k p d n)) (kept d n)
  ]
]

-- ---- the lesser of two
pub lesser_by : (P : Row → Type 0) (r : Row) → P r → P (opposite_row r) → P (lesser r)
lesser_by P r h g = by (is_lt (slice_cmp int_cmp (numbers_of (opposite_row r)) (numbers_of r)))
  where
    by : (t : Bool) → P (cond t (opposite_row r) r)
    by true = g
    by false = h
