-- public: pieces in their normal form, and which of them are kept: those that have an element at some valuation.
use Rattle.std.specs.Prelude.{◌≡◌, ◌⊎◌, Option, Some, None, option_map, IfSome, MatchOption, List, [], ◌∷◌}
use Rattle.std.specs.Option.{unwrap_or}
use Rattle.isl_space.specs.Name.{Name}
use Rattle.isl_piece.specs.declared.system.System.{System}
use Rattle.isl_piece.specs.Normal.{normal_rows, normal_system}
use Rattle.isl_piece.specs.System.{HoldsSystem, free_columns}
use Rattle.isl_elim.specs.Sample.{IsNowhere}
use Rattle.isl_union.specs.KeptValue.{KeptPiece, IsLive, IsVoid}

-- the piece with its normal rows; nothing where one of its rows can hold nowhere
abbrev pub normal_of : KeptPiece → Option KeptPiece
normal_of piece = option_map (λ rows. record { space = piece.space; definitions = piece.definitions; rows = rows }) (normal_rows piece.rows)

-- the normal form of a piece that has elements
abbrev pub settled : KeptPiece → KeptPiece
settled piece = record { space = piece.space; definitions = piece.definitions; rows = unwrap_or (normal_rows piece.rows) [] }

-- the kept pieces are those of the others that have an element at some valuation, in order
abbrev pub AreLiveOf : List Name → List KeptPiece → List KeptPiece → Type 0
AreLiveOf params [] kept = kept ≡ []
AreLiveOf params (piece ∷ others) kept =
    (IsVoid params piece × AreLiveOf params others kept)
    ⊎ (IsLive params piece × (rest : List KeptPiece) × (kept ≡ piece ∷ rest) × AreLiveOf params others rest)

-- the same of one: what was found is the piece, where there is one that has an element
abbrev pub IsLiveOf : List Name → Option KeptPiece → Option KeptPiece → Type 0
IsLiveOf params piece None = IfSome piece (IsVoid params)
IsLiveOf params piece (Some found) = (piece ≡ Some found) × IsLive params found

-- ---- systems
-- what was found is the system with its normal rows, and has a point; nothing where the system has none
abbrev pub IsLiveForm : System → Option System → Type 0
IsLiveForm s found =
    MatchOption found (IsNowhere (free_columns s) (HoldsSystem s))
    (λ new. (normal_system s ≡ Some new) × (¬ IsNowhere (free_columns new) (HoldsSystem new)))
