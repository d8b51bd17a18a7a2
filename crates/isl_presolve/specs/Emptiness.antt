-- public: rows that hold at no point. (isl manual, on empty sets)
use Rattle.std.specs.Prelude.{◌≡◌, ℕ, ℤ, List, length}
use Rattle.isl_piece.specs.declared.row.Row.{Row}
use Rattle.isl_piece.specs.System.{HoldRows}

-- no whole numbers at so many columns make all rows hold
abbrev pub HoldNowhere : ℕ → List Row → Type 0
HoldNowhere columns rows = (point : List ℤ) → length point ≡ columns → ¬ HoldRows rows point
