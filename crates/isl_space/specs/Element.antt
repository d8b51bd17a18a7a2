-- public: the elements of sets and maps. (isl manual, on sets and relations of integer tuples)
use Rattle.std.specs.Prelude.{◌≡◌, List, ℤ, length}
use Rattle.isl_space.specs.SpaceForm.{SpaceForm, coordinates_of}

-- a space and numbers; those of a map's element are the ones that it maps from, and then the ones that it maps to
pub record Element : Type 0 where
  pub space : SpaceForm
  pub coordinates : List ℤ

-- as many numbers as the space has coordinates
abbrev pub IsElement : Element → Type 0
IsElement element = length element.coordinates ≡ coordinates_of element.space
