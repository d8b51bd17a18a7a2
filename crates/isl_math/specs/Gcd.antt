-- public: the greatest common divisor as a function, of two integers and of a list.
use Rattle.std.specs.Prelude.{ℕ, zero, suc, ◌%◌, ℤ, pos, ◌≤ℤ◌, List, [], ◌∷◌, All, unsigned_abs}
use Rattle.isl_math.specs.Divide.{Divides}

-- Euclid's algorithm, which ends before its steps are used up where they are more than b
unfoldable pub euclid : ℕ → ℕ → ℕ → ℕ
euclid zero a b = a
euclid (suc steps) a zero = a
euclid (suc steps) a (suc b) = euclid steps (suc b) (a % suc b)

-- the greatest common divisor of a and b, and 0 where both are 0
unfoldable pub gcd_of : ℤ → ℤ → ℤ
gcd_of a b = pos (euclid (suc (unsigned_abs b)) (unsigned_abs a) (unsigned_abs b))

-- the greatest common divisor of the numbers, and 0 where all are 0
abbrev pub content : List ℤ → ℤ
content [] = pos 0
content (x ∷ xs) = gcd_of x (content xs)

-- what determines the content: it divides each number, and each common divisor divides it
pub record IsContentOf (xs : List ℤ) (g : ℤ) : Type 0 where
  pub not_negative : pos 0 ≤ℤ g
  pub common : All (Divides g) xs
  pub greatest : (d : ℤ) → All (Divides d) xs → Divides d g
