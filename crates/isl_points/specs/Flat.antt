-- public: points whose numbers stand behind one another in one list.
use Rattle.std.specs.Prelude.{ℕ, zero, suc, ℤ, List, [], ◌∷◌, ◌++◌, take, drop}

-- so many points of a width, of which the list begins with the numbers
abbrev pub points_in : ℕ → ℕ → List ℤ → List (List ℤ)
points_in width zero numbers = []
points_in width (suc count) numbers = take width numbers ∷ points_in width count (drop width numbers)

-- the numbers of points, behind one another
abbrev pub laid_out : List (List ℤ) → List ℤ
laid_out [] = []
laid_out (point ∷ points) = point ++ laid_out points
