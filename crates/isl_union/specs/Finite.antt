-- public: where a value has finitely many elements. (isl manual, on bounded sets)
use Rattle.std.specs.Prelude.{ℕ, ◌≤◌, All, unsigned_abs}
use Rattle.isl_space.specs.Element.{Element}
use Rattle.isl_space.specs.Valuation.{Valuation}
use Rattle.isl_union.specs.KeptValue.{KeptValue, Has}

-- some number bounds the magnitudes of all coordinates of all elements that the value has at the valuation
abbrev pub IsFiniteAt : KeptValue → Valuation → Type 0
IsFiniteAt value valuation =
    (bound : ℕ) × ((element : Element) → Has value valuation element → All (λ z. unsigned_abs z ≤ bound) element.coordinates)

-- at every valuation
abbrev pub IsFinite : KeptValue → Type 0
IsFinite value = (valuation : Valuation) → IsFiniteAt value valuation
