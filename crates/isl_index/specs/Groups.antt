-- inner: pieces in groups, each found by a title.
use Rattle.std.specs.Prelude.{ℕ, Bool, List, [], unwrap_or}
use Rattle.std.specs.Map.{lookup}
use Rattle.std.specs.Str.{bytes_eq}
use Rattle.isl_space.specs.Form.{text_of}
use Rattle.isl_space.specs.Name.{Name}
use Rattle.isl_space.specs.SpaceForm.{space_text_of}
use Rattle.isl_piece.specs.Piece.{PieceView}
use Rattle.isl_index.specs.Found.{first_form}

-- the pieces of a title
abbrev pub under : List ℕ → List (Name × List PieceView) → List PieceView
under title entries = unwrap_or (lookup (bytes_eq title) entries) []

-- whether the title is the text of the piece's space
abbrev pub has_title : List ℕ → PieceView → Bool
has_title title piece = bytes_eq title (space_text_of piece.space)

-- whether it is the text of the first form of that
abbrev pub begins_with_title : List ℕ → PieceView → Bool
begins_with_title title piece = bytes_eq title (text_of (first_form piece.space))
