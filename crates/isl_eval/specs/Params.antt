-- public: the valuations of parameter sets. (isl manual, on parameter domains)
use Rattle.std.specs.Prelude.{◌≡◌, Any, [], None}
use Rattle.isl_space.specs.Valuation.{Valuation}
use Rattle.isl_tree.specs.declared.tree.Tuple.TheVariants.{Leaf}
use Rattle.isl_tree.specs.declared.tree.PieceTree.{PieceTree}
use Rattle.isl_tree.specs.declared.tree.Literal.{Literal}
use Rattle.isl_tree.specs.Literal.{BodyHolds}

-- the piece is a formula alone, behind a tuple without entries
pub record HasNoCoordinates (piece : PieceTree) : Type 0 where
  pub first : piece.first ≡ Leaf None []
  pub second : piece.second ≡ None

-- one of the formulas holds; one that is missing does
abbrev pub HoldsSome : Literal → Valuation → Type 0
HoldsSome tree valuation = Any (λ piece. BodyHolds piece.body valuation) tree.pieces
