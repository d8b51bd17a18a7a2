-- public: values turned round: what a map had from x to y, its inverse has from y to x. (isl manual, on relation operations)
use Rattle.std.specs.Prelude.{ℕ, ◌+◌, ℤ, List, ◌++◌, drop, length, map, take}
use Rattle.std.specs.List.{range_with_len}
use Rattle.isl_space.specs.Element.{Element}
use Rattle.isl_space.specs.Form.{width_of}
use Rattle.isl_space.specs.Name.{Name}
use Rattle.isl_space.specs.SpaceForm.{SpaceForm, set_of, map_of}
use Rattle.isl_union.specs.KeptValue.{KeptPiece, KeptValue, columns_of, piece_system}
use Rattle.isl_union.specs.Moved.{moved}
use Rattle.isl_maps.specs.Places.{exchanged_places}

-- ---- elements
-- a map's space with its two forms exchanged; that of a set stays
abbrev pub inverse_space : SpaceForm → SpaceForm
inverse_space (set_of form) = set_of form
inverse_space (map_of from to) = map_of to from

-- the numbers of an element of this space, those that it maps to before those that it maps from
abbrev pub inverse_numbers : SpaceForm → List ℤ → List ℤ
inverse_numbers (set_of form) numbers = numbers
inverse_numbers (map_of from to) numbers = drop (width_of from) numbers ++ take (width_of from) numbers

-- the element turned round: of a map's, what it maps to is what it mapped from; one of a set stays
abbrev pub inverse_element : Element → Element
inverse_element element = record { space = inverse_space element.space; coordinates = inverse_numbers element.space element.coordinates }

-- ---- values
-- where the columns of a piece stand when it is turned round: parameters stay, and the coordinates of the two forms are exchanged
abbrev pub inverse_places : ℕ → SpaceForm → List ℕ
inverse_places parameters (set_of form) = range_with_len 0 (parameters + width_of form)
inverse_places parameters (map_of from to) = exchanged_places parameters (width_of from) (width_of to)

-- a piece turned round
unfoldable pub inverse_piece : List Name → KeptPiece → KeptPiece
inverse_piece params piece =
    moved (inverse_space piece.space) (columns_of params piece.space) (inverse_places (length params) piece.space)
    (piece_system params piece)

-- its pieces turned round, in their order
abbrev pub inverse_of : KeptValue → KeptValue
inverse_of value = record { params = value.params; pieces = map (inverse_piece value.params) value.pieces }
