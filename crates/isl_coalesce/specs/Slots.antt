-- inner: slots for pieces, of which some are empty, and the places of those of one space.
use Rattle.std.specs.Prelude.{ℕ, List, [], ◌∷◌, ◌++◌, All, Option, Some, None, get_or, unwrap_or}
use Rattle.std.specs.List.{Contains}
use Rattle.std.specs.Map.{lookup}
use Rattle.std.specs.Str.{bytes_eq}
use Rattle.isl_space.specs.Name.{Name}
use Rattle.isl_space.specs.SpaceForm.{space_text_of}
use Rattle.isl_piece.specs.Piece.{PieceView}
use Rattle.isl_union.specs.KeptValue.{KeptPiece}
use Rattle.isl_union.specs.Piece.{kept_piece}
use Rattle.isl_coalesce.specs.Joint.{AreUnjoined}

-- the piece of a slot, where it has one; those of slots, in order; the one at a place
abbrev pub held : Option PieceView → List PieceView
held None = []
held (Some piece) = piece ∷ []

abbrev pub present : List (Option PieceView) → List PieceView
present [] = []
present (slot ∷ slots) = held slot ++ present slots

abbrev pub pieces_at : List (Option PieceView) → ℕ → List PieceView
pieces_at slots place = held (get_or slots place None)

-- where J says when a piece is the joint piece of two: the piece and the one at a place have none
abbrev pub AreApartAt : (KeptPiece → KeptPiece → KeptPiece → Type 0) → List (Option PieceView) → PieceView → ℕ → Type 0
AreApartAt J slots piece place = All (λ other. AreUnjoined J (kept_piece other) (kept_piece piece)) (pieces_at slots place)

-- the places under a title
abbrev pub places_of : List ℕ → List (Name × List ℕ) → List ℕ
places_of title entries = unwrap_or (lookup (bytes_eq title) entries) []

-- the place of each piece stands under the text of its space
abbrev pub AreGrouped : List (Option PieceView) → List (Name × List ℕ) → Type 0
AreGrouped slots entries =
    (place : ℕ) → All (λ piece. Contains (places_of (space_text_of piece.space) entries) place) (pieces_at slots place)
