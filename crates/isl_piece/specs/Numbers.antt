-- public: lists of numbers: the coefficients of a row.
use Rattle.std.specs.Prelude.{Bool, if◌then◌else◌, ℤ, pos, neg_ℤ, List, [], ◌∷◌}
use Rattle.std.specs.Ordering.{int_eq}
use Rattle.isl_math.specs.Divide.{floor_div, floor_mod}

-- each number divided by g
abbrev pub divided : ℤ → List ℤ → List ℤ
divided g [] = []
divided g (x ∷ xs) = floor_div x g ∷ divided g xs

-- each number's remainder by k
abbrev pub reduced : ℤ → List ℤ → List ℤ
reduced k [] = []
reduced k (x ∷ xs) = floor_mod x k ∷ reduced k xs

-- the remainders by k of the numbers' negatives
abbrev pub opposite : ℤ → List ℤ → List ℤ
opposite k [] = []
opposite k (x ∷ xs) = floor_mod (neg_ℤ x) k ∷ opposite k xs

-- the first number that is not 0, and 0 where there is none
abbrev pub lead : List ℤ → ℤ
lead [] = pos 0
lead (x ∷ xs) = if int_eq x (pos 0) then lead xs else x

-- k divides z
abbrev pub is_multiple : ℤ → ℤ → Bool
is_multiple k z = int_eq (floor_mod z k) (pos 0)
