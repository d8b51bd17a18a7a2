-- public: the elements of values at assumed valuations. (isl manual, on parameter domains)
use Rattle.std.specs.Prelude.{◌≡◌, ◌⊎◌, List, [], ◌∷◌}
use Rattle.isl_space.specs.Element.{Element}
use Rattle.isl_space.specs.Name.{Name}
use Rattle.isl_space.specs.Valuation.{Valuation}
use Rattle.isl_union.specs.KeptValue.{KeptPiece, HasElement}
use Rattle.isl_assumed.specs.declared.assumed.Assumed.{Assumed}
use Rattle.isl_assumed.specs.Assumed.{Assumes}

-- the piece has no element at a valuation of P
abbrev pub IsDeadAt : (Valuation → Type 0) → List Name → KeptPiece → Type 0
IsDeadAt P params piece = (valuation : Valuation) (element : Element) → P valuation → ¬ HasElement params valuation element piece

-- the pieces that have one, unchanged and in order
abbrev pub AreLiveAt : (Valuation → Type 0) → List Name → List KeptPiece → List KeptPiece → Type 0
AreLiveAt P params [] live = live ≡ []
AreLiveAt P params (piece ∷ others) live =
    (IsDeadAt P params piece × AreLiveAt P params others live)
    ⊎ ((¬ IsDeadAt P params piece) × (rest : List KeptPiece) × (live ≡ piece ∷ rest) × AreLiveAt P params others rest)

-- the pieces that have an element at an assumed valuation
abbrev pub AreLiveUnder : Assumed → List Name → List KeptPiece → List KeptPiece → Type 0
AreLiveUnder assumed params pieces live = AreLiveAt (Assumes assumed) params pieces live
