-- inner: places under the texts of spaces.
use Rattle.std.specs.Prelude.{◌≡◌, ℕ, List, All, true, is_some}
use Rattle.std.specs.Map.{lookup}
use Rattle.std.specs.Str.{bytes_eq}
use Rattle.isl_space.specs.Name.{Name}
use Rattle.isl_space.specs.Space.{space_form_of}
use Rattle.isl_space.specs.SpaceForm.{space_text_of}
use Rattle.isl_space.specs.declared.space.Space.{Space}

-- some place stands under the text
abbrev pub HasPlace : List ℕ → List (Name × ℕ) → Type 0
HasPlace text places = is_some (lookup (bytes_eq text) places) ≡ true

-- some place stands under the text of each of the spaces
abbrev pub HavePlaces : List Space → List (Name × ℕ) → Type 0
HavePlaces spaces places = All (λ space. HasPlace (space_text_of (space_form_of space)) places) spaces
