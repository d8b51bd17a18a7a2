-- public: pieces of one space, and those of which it begins with one form. (isl manual, on unions of sets and of relations)
use Rattle.std.specs.Prelude.{Bool}
use Rattle.isl_space.specs.Form.{Form}
use Rattle.isl_space.specs.SpaceForm.{SpaceForm, set_of, map_of}
use Rattle.isl_piece.specs.Piece.{PieceView}
use Rattle.isl_index.specs.Same.{is_same_form, is_same_space}

-- whether the piece lies in the space
abbrev pub lies_in : SpaceForm → PieceView → Bool
lies_in space piece = is_same_space space piece.space

-- the form of a set, and the one that a map maps from
abbrev pub first_form : SpaceForm → Form
first_form (set_of form) = form
first_form (map_of from to) = from

-- whether the piece is one of a set of the form, or of a map from it
abbrev pub begins_with : Form → PieceView → Bool
begins_with form piece = is_same_form form (first_form piece.space)
