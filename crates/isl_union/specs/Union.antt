-- public: the union of two values. (isl manual, on set and relation operations)
use Rattle.std.specs.Prelude.{◌≡◌, ◌≢◌, ◌⊎◌, List, ◌++◌}
use Rattle.isl_space.specs.Names.{joined}
use Rattle.isl_union.specs.KeptValue.{KeptPiece, KeptValue}
use Rattle.isl_union.specs.Moved.{aligned_pieces}

-- the pieces of the first list, and then those of the second; where the two lists are equal, the pieces of one of them alone
abbrev pub AreOfBoth : List KeptPiece → List KeptPiece → List KeptPiece → Type 0
AreOfBoth own others pieces = ((own ≡ others) × (pieces ≡ own)) ⊎ ((own ≢ others) × (pieces ≡ own ++ others))

-- the value has the joined parameters, and over them the pieces of both
pub record IsUnionOf (a b value : KeptValue) : Type 0 where
  pub params : value.params ≡ joined a.params b.params
  pub pieces : AreOfBoth (aligned_pieces (joined a.params b.params) a) (aligned_pieces (joined a.params b.params) b) value.pieces
