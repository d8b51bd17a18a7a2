-- A number put into a list of numbers at one place, or taken out; and weighted sums of two lists.
use Rattle.std.proofs.Common.{◌≡◌, ℕ, zero, suc, ◌+◌, ◌<◌, ◌≤◌, refl, ap, arith, ℤ, pos, ◌+ℤ◌, ◌*ℤ◌, List, [], ◌∷◌, ◌++◌, length, get_or}
use Rattle.std.proofs.Common.{take, add-one}
use Rattle.std.specs.List.{insert, remove}
use Rattle.isl_math.proofs.Ring.{expand, linear}
use Rattle.isl_math.specs.Dot.{dot, weighted_sum}

-- ---- a sum of products at one place

-- x stands at i among the numbers xs: the term at i apart from all others
pub dot-insert : (cs xs : List ℤ) (i : ℕ) (x : ℤ) → i < length cs → i ≤ length xs
    → dot cs (insert xs i x) ≡ get_or cs i (pos 0) *ℤ x +ℤ dot (remove cs i) xs
dot-insert [] xs i x h k = absurd (omega arith)
dot-insert (c ∷ cs) xs zero x h k = refl
dot-insert (c ∷ cs) [] (suc i) x h k = absurd (omega arith)
dot-insert (c ∷ cs) (y ∷ ys) (suc i) x h k = omega (arith, linear, dot-insert cs ys i x (omega arith) (omega arith))

-- ---- weighted sums
pub length-weighted_sum : (m : ℤ) (xs : List ℤ) (n : ℤ) (ys : List ℤ) → length xs ≡ length ys → length (weighted_sum m xs n ys) ≡ length xs
length-weighted_sum m [] n ys e = refl
length-weighted_sum m (x ∷ xs) n [] e = absurd (omega arith)
length-weighted_sum m (x ∷ xs) n (y ∷ ys) e = omega (arith, length-weighted_sum m xs n ys (omega arith))

pub get_or-weighted_sum : (m : ℤ) (xs : List ℤ) (n : ℤ) (ys : List ℤ) (i : ℕ) → length xs ≡ length ys → i < length xs
    → get_or (weighted_sum m xs n ys) i (pos 0) ≡ m *ℤ get_or xs i (pos 0) +ℤ n *ℤ get_or ys i (pos 0)
get_or-weighted_sum m [] n ys i e h = absurd (omega arith)
get_or-weighted_sum m (x ∷ xs) n [] i e h = absurd (omega arith)
get_or-weighted_sum m (x ∷ xs) n (y ∷ ys) zero e h = refl
get_or-weighted_sum m (x ∷ xs) n (y ∷ ys) (suc i) e h = get_or-weighted_sum m xs n ys i (omega arith) (omega arith)

-- the value of a combination is the combination of the values
pub dot-weighted_sum : (m : ℤ) (cs : List ℤ) (n : ℤ) (ds xs : List ℤ) → length cs ≡ length ds
    → dot (weighted_sum m cs n ds) xs ≡ m *ℤ dot cs xs +ℤ n *ℤ dot ds xs
dot-weighted_sum m [] n [] xs e = omega (arith, linear)
dot-weighted_sum m [] n (d ∷ ds) xs e = absurd (omega arith)
dot-weighted_sum m (c ∷ cs) n [] xs e = absurd (omega arith)
dot-weighted_sum m (c ∷ cs) n (d ∷ ds) [] e = omega (arith, linear)
dot-weighted_sum m (c ∷ cs) n (d ∷ ds) (x ∷ xs) e = let h = simp expand at (dot-weighted_sum m cs n ds xs (omega arith)) in
    simp expand (omega (arith, linear))

-- one element more, for a loop
pub weighted_sum-take_more : (m : ℤ) (xs : List ℤ) (n : ℤ) (ys : List ℤ) (i : ℕ) → i < length xs → i < length ys
    → weighted_sum m (take (i + 1) xs) n (take (i + 1) ys) ≡ weighted_sum m (take i xs) n (take i ys)
    ++ (m *ℤ get_or xs i (pos 0) +ℤ n *ℤ get_or ys i (pos 0)) ∷ []
weighted_sum-take_more m xs n ys i h k = rw add-one (by xs ys i h k)
  where
    by : (xs ys : List ℤ) (i : ℕ) → i < length xs → i < length ys
        → weighted_sum m (take (suc i) xs) n (take (suc i) ys) ≡ weighted_sum m (take i xs) n (take i ys)
        ++ (m *ℤ get_or xs i (pos 0) +ℤ n *ℤ get_or ys i (pos 0)) ∷ []
    by [] ys i h k = absurd (omega arith)
    by (x ∷ xs) [] i h k = absurd (omega arith)
    by (x ∷ xs) (y ∷ ys) zero h k = refl
    by (x ∷ xs) (y ∷ ys) (suc i) h k = ap (λ zs. (m *ℤ x +ℤ n *ℤ y) ∷ zs) (by xs ys i (omega arith) (omega arith))
