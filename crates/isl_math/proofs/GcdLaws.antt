-- The greatest common divisor of two integers and of a list.
use Rattle.std.proofs.Common.{◌≡◌, ℕ, zero, suc, ◌%◌, ◌<◌, refl, arith, ℤ, pos, List, [], ◌∷◌, mod-lt, unsigned_abs}
use Rattle.std.proofs.lemmas.List.Elements.{All-nil, All-cons, All-head, All-tail, All-weaker}
use Rattle.isl_math.specs.Divide.{Divides, IsGcdOf}
use Rattle.isl_math.specs.Gcd.{euclid, gcd_of, content, IsContentOf}
use Rattle.isl_math.proofs.Ring.{linear}
use Rattle.isl_math.proofs.DivideLaws.{Divides-zero, Divides_trans, gcd_unique, IsGcdOf-from_mod, IsGcdOf-from_zero, IsGcdOf-from_abs}

pub IsGcdOf-euclid : (steps a b : ℕ) → b < steps → IsGcdOf (pos a) (pos b) (pos (euclid steps a b))
unfolding euclid
IsGcdOf-euclid zero a b h = absurd (omega arith)
IsGcdOf-euclid (suc steps) a zero h = IsGcdOf-from_zero a 0 refl
IsGcdOf-euclid (suc steps) a (suc b) h =
    let small : a % suc b < suc b = mod-lt a {m = suc b} (omega arith) in
    IsGcdOf-from_mod a (suc b) (pos (euclid steps (suc b) (a % suc b))) (IsGcdOf-euclid steps (suc b) (a % suc b) (omega arith))

-- the function is the greatest common divisor
pub IsGcdOf-gcd_of : (a b : ℤ) → IsGcdOf a b (gcd_of a b)
unfolding gcd_of
IsGcdOf-gcd_of a b = IsGcdOf-from_abs a b (gcd_of a b)
    (IsGcdOf-euclid (suc (unsigned_abs b)) (unsigned_abs a) (unsigned_abs b) (omega arith))

pub gcd_of-from_IsGcdOf : (a b g : ℤ) → IsGcdOf a b g → g ≡ gcd_of a b
gcd_of-from_IsGcdOf a b g h = gcd_unique a b g (gcd_of a b) h (IsGcdOf-gcd_of a b)

pub IsContentOf-content : (xs : List ℤ) → IsContentOf xs (content xs)
IsContentOf-content [] = record {
  not_negative = omega (arith, linear);
  common = All-nil (Divides (pos 0));
  greatest = λ d h. Divides-zero d;
}
IsContentOf-content (x ∷ xs) =
    let rest = IsContentOf-content xs in
    let both = IsGcdOf-gcd_of x (content xs) in
    let g = gcd_of x (content xs) in
    record {
      not_negative = both.not_negative;
      common = All-cons (Divides g) x xs both.first (All-weaker (Divides (content xs)) (Divides g)
          (λ y h. Divides_trans g (content xs) y both.second h) xs rest.common);
      greatest = λ d h. both.greatest d (All-head (Divides d) x xs h) (rest.greatest d (All-tail (Divides d) x xs h));
    }
