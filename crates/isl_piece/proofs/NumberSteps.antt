-- One number more, for loops over the numbers of a row.
use Rattle.std.proofs.Common.{◌≡◌, ◌≢◌, refl, sym, ap, ◌∙◌, ℕ, zero, suc, ◌+◌, ◌<◌, ◌≤◌, ℤ, pos, negsuc, neg_ℤ, ◌*ℤ◌, ◌≤ℤ◌, List, [], ◌∷◌, ◌++◌, length, get_or, take, drop, add-one, arith, drop-cons, subst}
use Rattle.std.proofs.lemmas.List.{get_or_read, take_more}
use Rattle.std.proofs.lemmas.Grind.{common_steps}
use Rattle.std.specs.List.{All}
use Rattle.std.proofs.lemmas.List.Elements.{All-nil, All-cons, All-head, All-tail, All-get_or, All-take, All-push, All-weaker}
use Rattle.isl_math.proofs.Ring.{linear}
use Rattle.isl_math.specs.Divide.{floor_div, floor_mod, IsGcdOf, Divides}
use Rattle.isl_math.specs.Dot.{scaled}
use Rattle.isl_math.specs.Gcd.{content, IsContentOf}
use Rattle.isl_piece.specs.Numbers.{divided, reduced, opposite, lead}
use Rattle.isl_math.proofs.DivideLaws.{Divides_self, Divides-zero, Divides_trans}
use Rattle.isl_math.proofs.GcdLaws.{IsContentOf-content}
use Rattle.isl_piece.proofs.ContentLaws.{lead-zero, lead-here, content_is, all_by_one}

pub divided-take_more : (g : ℤ) (xs : List ℤ) (i : ℕ) → i < length xs → divided g (take (i + 1) xs) ≡ divided g (take i xs) ++ floor_div (get_or xs i (pos 0)) g ∷ []
divided-take_more g xs i h = rw add-one (by xs i h)
  where
    by : (xs : List ℤ) (i : ℕ) → i < length xs → divided g (take (suc i) xs) ≡ divided g (take i xs) ++ floor_div (get_or xs i (pos 0)) g ∷ []
    by [] i h = absurd (omega arith)
    by (x ∷ xs) zero h = refl
    by (x ∷ xs) (suc i) h = ap (λ ys. floor_div x g ∷ ys) (by xs i (omega arith))

pub reduced-take_more : (k : ℤ) (xs : List ℤ) (i : ℕ) → i < length xs → reduced k (take (i + 1) xs) ≡ reduced k (take i xs) ++ floor_mod (get_or xs i (pos 0)) k ∷ []
reduced-take_more k xs i h = rw add-one (by xs i h)
  where
    by : (xs : List ℤ) (i : ℕ) → i < length xs → reduced k (take (suc i) xs) ≡ reduced k (take i xs) ++ floor_mod (get_or xs i (pos 0)) k ∷ []
    by [] i h = absurd (omega arith)
    by (x ∷ xs) zero h = refl
    by (x ∷ xs) (suc i) h = ap (λ ys. floor_mod x k ∷ ys) (by xs i (omega arith))

pub opposite-take_more : (k : ℤ) (xs : List ℤ) (i : ℕ) → i < length xs → opposite k (take (i + 1) xs) ≡ opposite k (take i xs) ++ floor_mod (neg_ℤ (get_or xs i (pos 0))) k ∷ []
opposite-take_more k xs i h = rw add-one (by xs i h)
  where
    by : (xs : List ℤ) (i : ℕ) → i < length xs → opposite k (take (suc i) xs) ≡ opposite k (take i xs) ++ floor_mod (neg_ℤ (get_or xs i (pos 0))) k ∷ []
    by [] i h = absurd (omega arith)
    by (x ∷ xs) zero h = refl
    by (x ∷ xs) (suc i) h = ap (λ ys. floor_mod (neg_ℤ x) k ∷ ys) (by xs i (omega arith))

-- each number's negative
abbrev pub negated : List ℤ → List ℤ
negated [] = []
negated (x ∷ xs) = neg_ℤ x ∷ negated xs

pub negated_is : (xs : List ℤ) → negated xs ≡ scaled (negsuc 0) xs
negated_is [] = refl
negated_is (x ∷ xs) = let e = negated_is xs in let f : neg_ℤ x ≡ negsuc 0 *ℤ x = omega (arith, linear) in cc

pub negated-take_more : (xs : List ℤ) (i : ℕ) → i < length xs → negated (take (i + 1) xs) ≡ negated (take i xs) ++ neg_ℤ (get_or xs i (pos 0)) ∷ []
negated-take_more xs i h = rw add-one (by xs i h)
  where
    by : (xs : List ℤ) (i : ℕ) → i < length xs → negated (take (suc i) xs) ≡ negated (take i xs) ++ neg_ℤ (get_or xs i (pos 0)) ∷ []
    by [] i h = absurd (omega arith)
    by (x ∷ xs) zero h = refl
    by (x ∷ xs) (suc i) h = ap (λ ys. neg_ℤ x ∷ ys) (by xs i (omega arith))

pub ruleset steps = (divided-take_more, reduced-take_more, opposite-take_more, negated-take_more, negated_is, get_or_read)

-- an element that is read from the rest, which is as it was
pub holds_unchanged : {X : Type 0} (P : X → Type 0) (xs ys : List X) (i : ℕ) (x : X) → i < length xs → length xs ≡ length ys → All P ys → drop i xs ≡ drop i ys → x ≡ get_or xs i x → P x
holds_unchanged P xs ys i x h l all e is =
    let j : i < length ys = omega arith in
    let same : get_or xs i x ≡ get_or ys i x = grind (arith, common_steps) in
    subst P (sym (is ∙ same)) (All-get_or P ys i x j all)

-- ---- the first number that is not 0
pub lead-skip : (xs : List ℤ) (i : ℕ) → i < length xs → lead (drop i xs) ≡ lead xs → get_or xs i (pos 0) ≡ pos 0 → lead (drop (i + 1) xs) ≡ lead xs
lead-skip xs i h e z = rw add-one (sym (lead-zero (get_or xs i (pos 0)) (drop (suc i) xs) z) ∙ ap lead (sym (drop-cons xs i (pos 0) h)) ∙ e)

pub lead-found : (xs : List ℤ) (i : ℕ) → i < length xs → lead (drop i xs) ≡ lead xs → get_or xs i (pos 0) ≢ pos 0 → get_or xs i (pos 0) ≡ lead xs
lead-found xs i h e n = sym (lead-here (get_or xs i (pos 0)) (drop (suc i) xs) n) ∙ ap lead (sym (drop-cons xs i (pos 0) h)) ∙ e

pub ruleset leads = (lead-skip, lead-found, get_or_read)

-- ---- the content of the first numbers
pub IsContentOf-first : (z : ℤ) → pos 0 ≤ℤ z → IsContentOf (z ∷ []) z
IsContentOf-first z h = record {
  not_negative = h;
  common = All-cons (Divides z) z [] (Divides_self z) (All-nil (Divides z));
  greatest = λ d g. All-head (Divides d) z [] g;
}

pub IsContentOf-more : (z : ℤ) (xs : List ℤ) (i : ℕ) (x g h : ℤ) → i < length xs → x ≡ get_or xs i x → IsContentOf (z ∷ take i xs) g → IsGcdOf g x h → IsContentOf (z ∷ take (i + 1) xs) h
IsContentOf-more z xs i x g h l is c d = rw (take_more xs i x l, sym is) (record {
  not_negative = d.not_negative;
  common = All-push (Divides h) (z ∷ take i xs) x (All-weaker (Divides g) (Divides h) (λ y e. Divides_trans h g y d.first e) (z ∷ take i xs) c.common) d.second;
  greatest = λ e k. d.greatest e (c.greatest e (front (Divides e) (z ∷ take i xs) x k)) (last (Divides e) (z ∷ take i xs) x k);
})
  where
    front : (P : ℤ → Type 0) (ys : List ℤ) (y : ℤ) → All P (ys ++ y ∷ []) → All P ys
    front P [] y k = All-nil P
    front P (a ∷ ys) y k = All-cons P a ys (All-head P a (ys ++ y ∷ []) k) (front P ys y (All-tail P a (ys ++ y ∷ []) k))

    last : (P : ℤ → Type 0) (ys : List ℤ) (y : ℤ) → All P (ys ++ y ∷ []) → P y
    last P [] y k = All-head P y [] k
    last P (a ∷ ys) y k = last P ys y (All-tail P a (ys ++ y ∷ []) k)

-- a content of 1 stays
pub content_one : (z : ℤ) (xs : List ℤ) (i : ℕ) (g : ℤ) → g ≡ pos 1 → IsContentOf (z ∷ take i xs) g → g ≡ content (z ∷ xs)
content_one z xs i g e h = sym (content_is (z ∷ xs) g (rw e (record {
  not_negative = omega (arith, linear);
  common = all_by_one (z ∷ xs);
  greatest = λ d k. rw (← e) (h.greatest d (All-cons (Divides d) z (take i xs) (All-head (Divides d) z xs k) (All-take (Divides d) i xs (All-tail (Divides d) z xs k))));
})))

pub content_all : (z : ℤ) (xs : List ℤ) (i : ℕ) (g : ℤ) → length xs ≤ i → IsContentOf (z ∷ take i xs) g → g ≡ content (z ∷ xs)
content_all z xs i g l h = let e : take i xs ≡ xs = grind (arith, common_steps) in sym (content_is (z ∷ xs) g (rw e at h))

pub content_divides_first : (z : ℤ) (xs : List ℤ) (g : ℤ) → g ≡ content (z ∷ xs) → Divides g z
content_divides_first z xs g e = rw e (All-head (Divides (content (z ∷ xs))) z xs (IsContentOf-content (z ∷ xs)).common)

-- a 0 before the numbers changes nothing
pub content-zero : (xs : List ℤ) → content (pos 0 ∷ xs) ≡ content xs
content-zero xs = content_is (pos 0 ∷ xs) (content xs) (let h = IsContentOf-content xs in record {
  not_negative = h.not_negative;
  common = All-cons (Divides (content xs)) (pos 0) xs (Divides-zero (content xs)) h.common;
  greatest = λ d k. h.greatest d (All-tail (Divides d) (pos 0) xs k);
})
