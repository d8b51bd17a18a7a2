-- public: elements without some of their coordinates. (isl manual, on projecting out)
use Rattle.std.specs.Prelude.{◌≡◌, ◌+◌, ◌≤◌, ℕ, ℤ, List, ◌++◌, drop, length, take}
use Rattle.isl_space.specs.SpaceForm.{SpaceForm, coordinates_of}
use Rattle.isl_space.specs.Element.{Element, IsElement}
use Rattle.isl_space.specs.Valuation.{Valuation}
use Rattle.isl_union.specs.KeptValue.{KeptValue, Has}

-- so many coordinates from one on are among those of the space, and the other space has the others
pub record IsNarrower (space : SpaceForm) (from count : ℕ) (to : SpaceForm) : Type 0 where
  pub inside : from + count ≤ coordinates_of space
  pub left : coordinates_of to + count ≡ coordinates_of space

-- the numbers of an element, and between them others, from a place on
abbrev pub put_between : ℕ → List ℤ → List ℤ → List ℤ
put_between from middle numbers = take from numbers ++ (middle ++ drop from numbers)

-- the element lies in the space `to`, and with some numbers for the coordinates that were left out the value has it in `space`
pub record IsProjected (value : KeptValue) (space : SpaceForm) (from count : ℕ) (to : SpaceForm) (valuation : Valuation) (element : Element)
    : Type 0 where
  pub numbers : IsElement element
  pub lies : element.space ≡ to
  pub middle : List ℤ
  pub long : length middle ≡ count
  pub whole : Has value valuation (record { space = space; coordinates = put_between from middle element.coordinates })
