-- public: the spaces that pieces lie in. (isl manual, on unions of sets and of relations)
use Rattle.std.specs.Prelude.{◌≡◌, ◌≢◌, not, List, [], ◌∷◌, All, AllPairs, Any, filter, map}
use Rattle.isl_space.specs.SpaceForm.{SpaceForm}
use Rattle.isl_piece.specs.Piece.{PieceView}
use Rattle.isl_index.specs.Same.{is_same_space}

-- each of the spaces once, in the order in which they come first
abbrev pub each_once : List SpaceForm → List SpaceForm
each_once [] = []
each_once (space ∷ spaces) = space ∷ filter (λ other. not (is_same_space space other)) (each_once spaces)

-- the spaces are those of the pieces, each once, in the order of their first pieces
pub record AreSpacesOf (pieces : List PieceView) (spaces : List SpaceForm) : Type 0 where
  pub order : spaces ≡ each_once (map (λ piece. piece.space) pieces)
  pub once : AllPairs (λ s t. s ≢ t) spaces
  pub all : All (λ piece. Any (λ s. piece.space ≡ s) spaces) pieces
  pub only : All (λ s. Any (λ piece. piece.space ≡ s) pieces) spaces
