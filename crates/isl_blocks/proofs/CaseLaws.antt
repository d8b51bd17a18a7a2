-- One list comes before another where they first differ.
use Rattle.std.proofs.Common.{◌≡◌, ◌↔◌, inl, inr, refl, arith, ℕ, suc, ◌<◌, ℤ, List, [], ◌∷◌, length, take}
use Rattle.isl_math.specs.Order.{IsBefore}
use Rattle.isl_math.proofs.OrderLaws.{IsBefore-at}
use Rattle.isl_blocks.specs.Cases.{IsBeforeAt}

one_more : (x y : ℤ) (xs ys : List ℤ) (i : ℕ) → x ≡ y → take i xs ≡ take i ys → take (suc i) (x ∷ xs) ≡ take (suc i) (y ∷ ys)
one_more x y xs ys i s t = cc

pub before_at : (xs ys : List ℤ) → length xs ≡ length ys → IsBefore xs ys → (i : ℕ) × (i < length ys) × IsBeforeAt i xs ys
before_at [] ys e h = absurd h
before_at (x ∷ xs) [] e h = absurd h
before_at (x ∷ xs) (y ∷ ys) e (inl l) = (0, omega arith, record { same = refl; less = l })
before_at (x ∷ xs) (y ∷ ys) e (inr r) =
    let at = before_at xs ys (omega arith) r.1 in
    let l = at.1 in
    (suc at.0, omega (arith, l), record { same = one_more x y xs ys at.0 r.0 at.2.same; less = at.2.less })

pub at_before : (xs ys : List ℤ) (i : ℕ) → length xs ≡ length ys → i < length ys → IsBeforeAt i xs ys → IsBefore xs ys
at_before xs ys i e l at = IsBefore-at xs ys i (omega (arith, e, l)) l at.same at.less

-- lists of one length: one comes before the other exactly where it does so at one of its places
pub before_somewhere : (xs ys : List ℤ) → length xs ≡ length ys → IsBefore xs ys ↔ ((i : ℕ) × (i < length ys) × IsBeforeAt i xs ys)
before_somewhere xs ys e = (before_at xs ys e, λ h. at_before xs ys h.0 e h.1 h.2)
