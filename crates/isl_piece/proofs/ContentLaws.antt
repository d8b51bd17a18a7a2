-- The content of divided, scaled and opposite lists, and their first numbers that are not 0.
use Rattle.std.proofs.Common.{◌≡◌, ◌≢◌, ◌⊎◌, inl, inr, zero, suc, ◌≤ℤ◌, ◌<ℤ◌, refl, sym, ap, ◌∙◌, arith, ℤ, pos, negsuc, neg_ℤ, ◌-ℤ◌, ◌*ℤ◌, List, [], ◌∷◌, length, Bool, true, false}
use Rattle.std.specs.List.{All}
use Rattle.std.specs.Ordering.{int_eq}
use Rattle.std.proofs.lemmas.Bool.{cases_Bool, cond-true, cond-false}
use Rattle.std.proofs.lemmas.Bool.Decides.{Decides-int_eq}
use Rattle.std.proofs.lemmas.List.Elements.{All-nil, All-cons, All-head, All-tail}
use Rattle.isl_math.specs.Divide.{floor_div, floor_mod, Divides}
use Rattle.isl_math.specs.Dot.{scaled}
use Rattle.isl_math.specs.Gcd.{content, IsContentOf}
use Rattle.isl_math.specs.Order.{sign_of}
use Rattle.isl_math.proofs.Ring.{expand, linear, *ℤ_assoc}
use Rattle.isl_math.proofs.OrderLaws.{≡-from_*ℤ, sign-*ℤ, abs_positive}
use Rattle.isl_math.proofs.DivideLaws.{exact_quotient, Divides_scaled, floor_split, Divides_self, Divides-zero, one-Divides, Divides-neg_ℤ, Divides-minus, Divides-*ℤ, Divides-same, Divides_trans, gcd_unique}
use Rattle.isl_math.proofs.GcdLaws.{IsContentOf-content}
use Rattle.isl_piece.specs.Numbers.{divided, opposite, lead}

-- ---- what determines the content
pub content_unique : (xs : List ℤ) (g h : ℤ) → IsContentOf xs g → IsContentOf xs h → g ≡ h
content_unique xs g h m n = gcd_unique h h g h
    (record { not_negative = m.not_negative; first = n.greatest g m.common; second = n.greatest g m.common; greatest = λ d p q. Divides_trans d h g p (m.greatest h n.common) })
    (record { not_negative = n.not_negative; first = Divides_self h; second = Divides_self h; greatest = λ d p q. p })

pub content_is : (xs : List ℤ) (g : ℤ) → IsContentOf xs g → content xs ≡ g
content_is xs g h = content_unique xs (content xs) g (IsContentOf-content xs) h

-- lists with the same common divisors have one content
pub IsContentOf-like : (xs ys : List ℤ) (g : ℤ) → ((d : ℤ) → All (Divides d) xs → All (Divides d) ys) → ((d : ℤ) → All (Divides d) ys → All (Divides d) xs) → IsContentOf xs g → IsContentOf ys g
IsContentOf-like xs ys g f b h = record { not_negative = h.not_negative; common = f g h.common; greatest = λ d k. h.greatest d (b d k) }

-- ---- divided by the content
common_times : (g d : ℤ) (xs : List ℤ) → pos 0 <ℤ g → All (Divides g) xs → All (Divides d) (divided g xs) → All (Divides (g *ℤ d)) xs
common_times g d [] p h k = All-nil (Divides (g *ℤ d))
common_times g d (x ∷ xs) p h k =
    All-cons (Divides (g *ℤ d)) x xs
    (Divides-same (g *ℤ d) (g *ℤ floor_div x g) x (exact_quotient g x p (All-head (Divides g) x xs h)) ((Divides_scaled g d (floor_div x g) p).1 (All-head (Divides d) (floor_div x g) (divided g xs) k)))
    (common_times g d xs p (All-tail (Divides g) x xs h) (All-tail (Divides d) (floor_div x g) (divided g xs) k))

pub all_by_one : (xs : List ℤ) → All (Divides (pos 1)) xs
all_by_one [] = All-nil (Divides (pos 1))
all_by_one (x ∷ xs) = All-cons (Divides (pos 1)) x xs (one-Divides x) (all_by_one xs)

pub IsContentOf-divided : (xs : List ℤ) (g : ℤ) → pos 0 <ℤ g → IsContentOf xs g → IsContentOf (divided g xs) (pos 1)
IsContentOf-divided xs g p h = record {
  not_negative = omega (arith, linear);
  common = all_by_one (divided g xs);
  greatest = λ d k. (Divides_scaled g d (pos 1) p).0 (Divides-same (g *ℤ d) g (g *ℤ pos 1) (omega (arith, linear)) (h.greatest (g *ℤ d) (common_times g d xs p h.common k)));
}

pub content-divided : (xs : List ℤ) → content xs ≢ pos 0 → content (divided (content xs) xs) ≡ pos 1
content-divided xs n =
    let h = IsContentOf-content xs in
    content_is (divided (content xs) xs) (pos 1) (IsContentOf-divided xs (content xs) (positive (content xs) n h.not_negative) h)
  where
    positive : (g : ℤ) → g ≢ pos 0 → pos 0 ≤ℤ g → pos 0 <ℤ g
    positive g n h = omega (arith, linear)

-- ---- a list times 1 or -1
common_scaled : (s d : ℤ) (xs : List ℤ) → All (Divides d) xs → All (Divides d) (scaled s xs)
common_scaled s d [] h = All-nil (Divides d)
common_scaled s d (x ∷ xs) h =
    All-cons (Divides d) (s *ℤ x) (scaled s xs) (Divides-same d (x *ℤ s) (s *ℤ x) (swap x s) (Divides-*ℤ d x s (All-head (Divides d) x xs h))) (common_scaled s d xs (All-tail (Divides d) x xs h))
  where
    swap : (x s : ℤ) → x *ℤ s ≡ s *ℤ x
    swap x s = simp expand (omega (arith, linear))

pub scaled_one : (xs : List ℤ) → scaled (pos 1) xs ≡ xs
scaled_one [] = refl
scaled_one (x ∷ xs) = let e = scaled_one xs in let f : pos 1 *ℤ x ≡ x = omega (arith, linear) in cc

pub scaled_scaled : (s t : ℤ) (xs : List ℤ) → scaled s (scaled t xs) ≡ scaled (s *ℤ t) xs
scaled_scaled s t [] = refl
scaled_scaled s t (x ∷ xs) = let e = scaled_scaled s t xs in let f : s *ℤ (t *ℤ x) ≡ (s *ℤ t) *ℤ x = sym (*ℤ_assoc s t x) in cc

pub length-scaled : (s : ℤ) (xs : List ℤ) → length (scaled s xs) ≡ length xs
length-scaled s [] = refl
length-scaled s (x ∷ xs) = omega (arith, length-scaled s xs)

pub sign_squared : (z : ℤ) → z ≢ pos 0 → sign_of z *ℤ sign_of z ≡ pos 1
sign_squared (pos zero) n = absurd (n refl)
sign_squared (pos (suc z)) n = refl
sign_squared (negsuc z) n = refl

pub content-scaled : (s : ℤ) (xs : List ℤ) → s *ℤ s ≡ pos 1 → content (scaled s xs) ≡ content xs
content-scaled s xs e = content_is (scaled s xs) (content xs)
    (IsContentOf-like xs (scaled s xs) (content xs) (λ d h. common_scaled s d xs h) (λ d h. rw (← back) (common_scaled s d (scaled s xs) h)) (IsContentOf-content xs))
  where
    back : scaled s (scaled s xs) ≡ xs
    back = scaled_scaled s s xs ∙ ap (λ t. scaled t xs) e ∙ scaled_one xs

-- ---- the opposites of numbers have with k the same common divisors
Divides-remainder : (d k z : ℤ) → pos 0 <ℤ k → Divides d k → Divides d z → Divides d (floor_mod z k)
Divides-remainder d k z p h g =
    let s = floor_split z k p in
    Divides-same d (z -ℤ k *ℤ floor_div z k) (floor_mod z k) (omega (arith, linear)) (Divides-minus d z (k *ℤ floor_div z k) g (Divides-*ℤ d k (floor_div z k) h))

pub common_opposite : (d k : ℤ) (xs : List ℤ) → pos 0 <ℤ k → Divides d k → All (Divides d) xs → All (Divides d) (opposite k xs)
common_opposite d k [] p h g = All-nil (Divides d)
common_opposite d k (x ∷ xs) p h g =
    All-cons (Divides d) (floor_mod (neg_ℤ x) k) (opposite k xs) (Divides-remainder d k (neg_ℤ x) p h (Divides-neg_ℤ d x (All-head (Divides d) x xs g))) (common_opposite d k xs p h (All-tail (Divides d) x xs g))

-- ---- the first number that is not 0
pub int_eq-true : (x y : ℤ) → x ≡ y → int_eq x y ≡ true
int_eq-true x y e = (Decides-int_eq x y).1 e

pub int_eq-false : (x y : ℤ) → x ≢ y → int_eq x y ≡ false
int_eq-false x y n = by (int_eq x y) (Decides-int_eq x y).0
  where
    by : (t : Bool) → (t ≡ true → x ≡ y) → t ≡ false
    by true h = absurd (n (h refl))
    by false h = refl

pub lead-zero : (x : ℤ) (xs : List ℤ) → x ≡ pos 0 → lead (x ∷ xs) ≡ lead xs
lead-zero x xs e = cond-true (int_eq x (pos 0)) (lead xs) x (int_eq-true x (pos 0) e)

pub lead-here : (x : ℤ) (xs : List ℤ) → x ≢ pos 0 → lead (x ∷ xs) ≡ x
lead-here x xs n = cond-false (int_eq x (pos 0)) (lead xs) x (int_eq-false x (pos 0) n)

pub zero_cases : (x : ℤ) → (x ≡ pos 0) ⊎ (x ≢ pos 0)
zero_cases x = elim (cases_Bool (int_eq x (pos 0))) [
  | inl t ↦ inl ((Decides-int_eq x (pos 0)).0 t)
  | inr f ↦ inr (λ e. let t = int_eq-true x (pos 0) e in cc)
]

-- only a list of zeros has none
lead_zero_common : (xs : List ℤ) → lead xs ≡ pos 0 → All (Divides (pos 0)) xs
lead_zero_common [] e = All-nil (Divides (pos 0))
lead_zero_common (x ∷ xs) e = elim (zero_cases x) [
  | inl z ↦ All-cons (Divides (pos 0)) x xs (Divides-same (pos 0) (pos 0) x (sym z) (Divides-zero (pos 0))) (lead_zero_common xs (sym (lead-zero x xs z) ∙ e))
  | inr n ↦ absurd (n (sym (lead-here x xs n) ∙ e))
]

pub lead_not_zero : (xs : List ℤ) → content xs ≢ pos 0 → lead xs ≢ pos 0
lead_not_zero xs n e = n (zero_divides (content xs) ((IsContentOf-content xs).greatest (pos 0) (lead_zero_common xs e)))
  where
    zero_divides : (z : ℤ) → Divides (pos 0) z → z ≡ pos 0
    zero_divides z h = let e = h.is in omega (arith, linear)

pub lead-scaled : (s : ℤ) (xs : List ℤ) → s ≢ pos 0 → lead (scaled s xs) ≡ s *ℤ lead xs
lead-scaled s [] n = omega (arith, linear)
lead-scaled s (x ∷ xs) n = elim (zero_cases x) [
  | inl z ↦ lead-zero (s *ℤ x) (scaled s xs) (times_zero s x z) ∙ lead-scaled s xs n ∙ ap (λ w. s *ℤ w) (sym (lead-zero x xs z))
  | inr m ↦ lead-here (s *ℤ x) (scaled s xs) (λ e. m (≡-from_*ℤ s x (pos 0) n (e ∙ sym (times_zero s (pos 0) refl)))) ∙ ap (λ w. s *ℤ w) (sym (lead-here x xs m))
]
  where
    times_zero : (s x : ℤ) → x ≡ pos 0 → s *ℤ x ≡ pos 0
    times_zero s x e = let f = ap (λ w. s *ℤ w) e in omega (arith, linear)

pub sign_not_zero : (z : ℤ) → z ≢ pos 0 → sign_of z ≢ pos 0
sign_not_zero z n e = let s = sign_squared z n in let t = ap (λ w. w *ℤ w) e in one_is_not (sign_of z *ℤ sign_of z) s t
  where
    one_is_not : (w : ℤ) → w ≡ pos 1 → w ≡ pos 0 → ⊥
    one_is_not w e f = omega (arith, linear)

-- times the sign of its first number a list begins with a positive number
pub lead-signed : (xs : List ℤ) → lead xs ≢ pos 0 → pos 0 <ℤ lead (scaled (sign_of (lead xs)) xs)
lead-signed xs n = rw (lead-scaled (sign_of (lead xs)) xs (sign_not_zero (lead xs) n) ∙ sign-*ℤ (lead xs)) (abs_positive (lead xs) n)

pub sign_of_positive : (z : ℤ) → pos 0 <ℤ z → sign_of z ≡ pos 1
sign_of_positive (pos zero) p = absurd p.lt
sign_of_positive (pos (suc z)) p = refl
sign_of_positive (negsuc z) p = absurd p.lt
