-- The laws of divided, reduced and opposite lists of numbers.
use Rattle.std.proofs.Common.{◌≡◌, ℕ, ◌≤◌, ◌<ℤ◌, refl, sym, ap, ◌∙◌, arith, ℤ, pos, neg_ℤ, ◌+ℤ◌, ◌-ℤ◌, ◌*ℤ◌, List, [], ◌∷◌, length, unsigned_abs}
use Rattle.std.specs.List.{All}
use Rattle.std.proofs.lemmas.List.Elements.{All-nil, All-cons, All-head, All-tail}
use Rattle.isl_math.specs.Divide.{floor_div, floor_mod, IsRemainder, Divides, IsCongruent}
use Rattle.isl_math.specs.Dot.{dot}
use Rattle.isl_math.proofs.Ring.{expand, linear}
use Rattle.isl_math.proofs.OrderLaws.{≤ℤ-from_*ℤ, <ℤ-from_*ℤ}
use Rattle.isl_math.proofs.MagnitudeLaws.{IsUpTo, up_to-floor_div, up_to-floor_mod}
use Rattle.isl_math.proofs.DivideLaws.{exact_quotient, IsRemainder-floor_mod, floor_mod-from_IsRemainder, floor_split, floor_unique, floor_mod-same, Divides-zero, Divides-+ℤ, Divides-*ℤ, Divides-same, IsCongruent_refl, IsCongruent-+ℤ, IsCongruent-*ℤ, IsCongruent-floor_mod}
use Rattle.isl_piece.specs.Numbers.{divided, reduced, opposite}

-- ---- lengths
pub length-divided : (g : ℤ) (xs : List ℤ) → length (divided g xs) ≡ length xs
length-divided g [] = refl
length-divided g (x ∷ xs) = omega (arith, length-divided g xs)

pub length-reduced : (k : ℤ) (xs : List ℤ) → length (reduced k xs) ≡ length xs
length-reduced k [] = refl
length-reduced k (x ∷ xs) = omega (arith, length-reduced k xs)

pub length-opposite : (k : ℤ) (xs : List ℤ) → length (opposite k xs) ≡ length xs
length-opposite k [] = refl
length-opposite k (x ∷ xs) = omega (arith, length-opposite k xs)

-- ---- sums of products
pub Divides-dot : (g : ℤ) (cs xs : List ℤ) → All (Divides g) cs → Divides g (dot cs xs)
Divides-dot g [] xs h = Divides-zero g
Divides-dot g (c ∷ cs) [] h = Divides-zero g
Divides-dot g (c ∷ cs) (x ∷ xs) h = Divides-+ℤ g (c *ℤ x) (dot cs xs) (Divides-*ℤ g c x (All-head (Divides g) c cs h)) (Divides-dot g cs xs (All-tail (Divides g) c cs h))

pub dot-divided : (g : ℤ) (cs xs : List ℤ) → pos 0 <ℤ g → All (Divides g) cs → g *ℤ dot (divided g cs) xs ≡ dot cs xs
dot-divided g [] xs p h = omega (arith, linear)
dot-divided g (c ∷ cs) [] p h = omega (arith, linear)
dot-divided g (c ∷ cs) (x ∷ xs) p h = by g c x (floor_div c g) (dot (divided g cs) xs) (dot cs xs) (exact_quotient g c p (All-head (Divides g) c cs h)) (dot-divided g cs xs p (All-tail (Divides g) c cs h))
  where
    by : (g c x q r s : ℤ) → g *ℤ q ≡ c → g *ℤ r ≡ s → g *ℤ (q *ℤ x +ℤ r) ≡ c *ℤ x +ℤ s
    by g c x q r s e f = let e' = simp expand at (ap (λ w. w *ℤ x) e) in simp expand (omega (arith, linear))

pub dot-reduced : (k : ℤ) (cs xs : List ℤ) → pos 0 <ℤ k → IsCongruent k (dot cs xs) (dot (reduced k cs) xs)
dot-reduced k [] xs p = IsCongruent_refl k (pos 0)
dot-reduced k (c ∷ cs) [] p = IsCongruent_refl k (pos 0)
dot-reduced k (c ∷ cs) (x ∷ xs) p =
    IsCongruent-+ℤ k (c *ℤ x) (floor_mod c k *ℤ x) (dot cs xs) (dot (reduced k cs) xs)
    (IsCongruent-*ℤ k c (floor_mod c k) x x (IsCongruent-floor_mod k c p) (IsCongruent_refl k x))
    (dot-reduced k cs xs p)

pub dot-opposite : (k : ℤ) (cs xs : List ℤ) → pos 0 <ℤ k → IsCongruent k (neg_ℤ (dot cs xs)) (dot (opposite k cs) xs)
dot-opposite k [] xs p = IsCongruent_refl k (pos 0)
dot-opposite k (c ∷ cs) [] p = IsCongruent_refl k (pos 0)
dot-opposite k (c ∷ cs) (x ∷ xs) p =
    Divides-same k (neg_ℤ c *ℤ x +ℤ neg_ℤ (dot cs xs) -ℤ (floor_mod (neg_ℤ c) k *ℤ x +ℤ dot (opposite k cs) xs)) (neg_ℤ (c *ℤ x +ℤ dot cs xs) -ℤ (floor_mod (neg_ℤ c) k *ℤ x +ℤ dot (opposite k cs) xs)) (by c x (dot cs xs) (floor_mod (neg_ℤ c) k *ℤ x +ℤ dot (opposite k cs) xs))
    (IsCongruent-+ℤ k (neg_ℤ c *ℤ x) (floor_mod (neg_ℤ c) k *ℤ x) (neg_ℤ (dot cs xs)) (dot (opposite k cs) xs)
    (IsCongruent-*ℤ k (neg_ℤ c) (floor_mod (neg_ℤ c) k) x x (IsCongruent-floor_mod k (neg_ℤ c) p) (IsCongruent_refl k x))
    (dot-opposite k cs xs p))
  where
    by : (c x d r : ℤ) → neg_ℤ c *ℤ x +ℤ neg_ℤ d -ℤ r ≡ neg_ℤ (c *ℤ x +ℤ d) -ℤ r
    by c x d r = simp expand (omega (arith, linear))

-- ---- a list that is divided or reduced already
pub quotient_one : (x : ℤ) → floor_div x (pos 1) ≡ x
quotient_one x = sym (floor_unique x (pos 1) x (pos 0) (omega (arith, linear)) (omega (arith, linear)) (omega (arith, linear))).0

pub divided_one : (xs : List ℤ) → divided (pos 1) xs ≡ xs
divided_one [] = refl
divided_one (x ∷ xs) = let e = divided_one xs in let f = quotient_one x in cc

pub divided_by_one : (g : ℤ) (xs : List ℤ) → g ≡ pos 1 → xs ≡ divided g xs
divided_by_one g xs e = rw e (sym (divided_one xs))

pub All-IsRemainder-reduced : (k : ℤ) (xs : List ℤ) → pos 0 <ℤ k → All (IsRemainder k) (reduced k xs)
All-IsRemainder-reduced k [] p = All-nil (IsRemainder k)
All-IsRemainder-reduced k (x ∷ xs) p = All-cons (IsRemainder k) (floor_mod x k) (reduced k xs) (IsRemainder-floor_mod k x p) (All-IsRemainder-reduced k xs p)

pub All-IsRemainder-opposite : (k : ℤ) (xs : List ℤ) → pos 0 <ℤ k → All (IsRemainder k) (opposite k xs)
All-IsRemainder-opposite k [] p = All-nil (IsRemainder k)
All-IsRemainder-opposite k (x ∷ xs) p = All-cons (IsRemainder k) (floor_mod (neg_ℤ x) k) (opposite k xs) (IsRemainder-floor_mod k (neg_ℤ x) p) (All-IsRemainder-opposite k xs p)

pub reduced_reduced : (k : ℤ) (xs : List ℤ) → All (IsRemainder k) xs → reduced k xs ≡ xs
reduced_reduced k [] h = refl
reduced_reduced k (x ∷ xs) h = let e = reduced_reduced k xs (All-tail (IsRemainder k) x xs h) in let f = floor_mod-from_IsRemainder k x (All-head (IsRemainder k) x xs h) in cc

pub opposite_twice : (k x : ℤ) → pos 0 <ℤ k → IsRemainder k x → floor_mod (neg_ℤ (floor_mod (neg_ℤ x) k)) k ≡ x
opposite_twice k x p h =
    let s = floor_split (neg_ℤ x) k p in
    floor_mod-same k (neg_ℤ (floor_mod (neg_ℤ x) k)) x p (record { quotient = floor_div (neg_ℤ x) k; is = omega (arith, linear) }) ∙ floor_mod-from_IsRemainder k x h

-- the opposite of the opposite is the number again
pub opposite_opposite : (k : ℤ) (xs : List ℤ) → pos 0 <ℤ k → All (IsRemainder k) xs → opposite k (opposite k xs) ≡ xs
opposite_opposite k [] p h = refl
opposite_opposite k (x ∷ xs) p h = let e = opposite_opposite k xs p (All-tail (IsRemainder k) x xs h) in let f = opposite_twice k x p (All-head (IsRemainder k) x xs h) in cc

-- ---- what g divides, divided by g
pub IsRemainder-divided : (g k x : ℤ) → pos 0 <ℤ g → pos 0 <ℤ k → Divides g k → Divides g x → IsRemainder k x → IsRemainder (floor_div k g) (floor_div x g)
IsRemainder-divided g k x p q dk dx h =
    let e = exact_quotient g k p dk in
    let f = exact_quotient g x p dx in
    let l = h.not_negative in
    let u = h.small in
    record {
      not_negative = ≤ℤ-from_*ℤ g (pos 0) (floor_div x g) p (omega (arith, linear));
      small = <ℤ-from_*ℤ g (floor_div x g) (floor_div k g) (omega (arith, linear)) (omega (arith, linear));
    }

pub All-IsRemainder-divided : (g k : ℤ) (xs : List ℤ) → pos 0 <ℤ g → pos 0 <ℤ k → Divides g k → All (Divides g) xs → All (IsRemainder k) xs → All (IsRemainder (floor_div k g)) (divided g xs)
All-IsRemainder-divided g k [] p q dk d h = All-nil (IsRemainder (floor_div k g))
All-IsRemainder-divided g k (x ∷ xs) p q dk d h =
    All-cons (IsRemainder (floor_div k g)) (floor_div x g) (divided g xs)
    (IsRemainder-divided g k x p q dk (All-head (Divides g) x xs d) (All-head (IsRemainder k) x xs h))
    (All-IsRemainder-divided g k xs p q dk (All-tail (Divides g) x xs d) (All-tail (IsRemainder k) x xs h))

pub positive-divided : (g k : ℤ) → pos 0 <ℤ g → pos 0 <ℤ k → Divides g k → pos 0 <ℤ floor_div k g
positive-divided g k p q d = let e = exact_quotient g k p d in <ℤ-from_*ℤ g (pos 0) (floor_div k g) (omega (arith, linear)) (omega (arith, linear))

-- ---- magnitudes
pub IsUpTo-divided : (b : ℕ) (g : ℤ) (xs : List ℤ) → pos 0 <ℤ g → All (IsUpTo b) xs → All (IsUpTo b) (divided g xs)
IsUpTo-divided b g [] p h = All-nil (IsUpTo b)
IsUpTo-divided b g (x ∷ xs) p h = All-cons (IsUpTo b) (floor_div x g) (divided g xs) (up_to-floor_div b x g p (All-head (IsUpTo b) x xs h)) (IsUpTo-divided b g xs p (All-tail (IsUpTo b) x xs h))

pub IsUpTo-reduced : (b : ℕ) (k : ℤ) (xs : List ℤ) → pos 0 <ℤ k → unsigned_abs k ≤ b → All (IsUpTo b) (reduced k xs)
IsUpTo-reduced b k [] p h = All-nil (IsUpTo b)
IsUpTo-reduced b k (x ∷ xs) p h = All-cons (IsUpTo b) (floor_mod x k) (reduced k xs) (up_to-floor_mod b x k p h) (IsUpTo-reduced b k xs p h)

pub IsUpTo-opposite : (b : ℕ) (k : ℤ) (xs : List ℤ) → pos 0 <ℤ k → unsigned_abs k ≤ b → All (IsUpTo b) (opposite k xs)
IsUpTo-opposite b k [] p h = All-nil (IsUpTo b)
IsUpTo-opposite b k (x ∷ xs) p h = All-cons (IsUpTo b) (floor_mod (neg_ℤ x) k) (opposite k xs) (up_to-floor_mod b (neg_ℤ x) k p h) (IsUpTo-opposite b k xs p h)
