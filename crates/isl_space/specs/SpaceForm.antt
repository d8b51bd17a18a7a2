-- public: where the elements of a set or of a map lie, by content. (isl manual, on spaces)
use Rattle.std.specs.Prelude.{ℕ, ◌+◌, ◌<◌, ◌≤◌, ◌⊎◌, List, ◌++◌, codes}
use Rattle.isl_space.specs.Limits.{most_coordinates, most_leaves}
use Rattle.isl_space.specs.Form.{Form, width_of, leaves_of, text_of, IsNamed}

-- a set's elements have one form, a map's two: one for what it maps from, one for what it maps to
pub data SpaceForm : Type 0 where
  set_of : Form → SpaceForm
  map_of : Form → Form → SpaceForm

-- how many coordinates in all
abbrev pub coordinates_of : SpaceForm → ℕ
coordinates_of (set_of form) = width_of form
coordinates_of (map_of from to) = width_of from + width_of to

-- how many leaves in all
abbrev pub space_leaves_of : SpaceForm → ℕ
space_leaves_of (set_of form) = leaves_of form
space_leaves_of (map_of from to) = leaves_of from + leaves_of to

-- the text by which spaces are put in order: that of the form, or `from -> to`
abbrev pub space_text_of : SpaceForm → List ℕ
space_text_of (set_of form) = text_of form
space_text_of (map_of from to) = text_of from ++ codes " -> " ++ text_of to

-- each name of a leaf may stand inside a literal
abbrev pub IsNamedSpace : SpaceForm → Type 0
IsNamedSpace (set_of form) = IsNamed form
IsNamedSpace (map_of from to) = IsNamed from × IsNamed to

-- no more coordinates and leaves than a space may have
pub record IsNarrowSpace (space : SpaceForm) : Type 0 where
  pub coordinates : coordinates_of space ≤ most_coordinates
  pub leaves : space_leaves_of space ≤ most_leaves

-- more coordinates or more leaves than a space may have
abbrev pub IsTooWideSpace : SpaceForm → Type 0
IsTooWideSpace space = (most_coordinates < coordinates_of space) ⊎ (most_leaves < space_leaves_of space)

-- a space that a value may have
pub record IsWellFormedSpace (space : SpaceForm) : Type 0 where
  pub named : IsNamedSpace space
  pub narrow : IsNarrowSpace space
