-- public: rows of which none is implied by the others. (isl manual, on affine hulls)
use Rattle.std.specs.Prelude.{◌≡◌, ℕ, ℤ, List, ◌∷◌, ◌++◌, length}
use Rattle.isl_piece.specs.declared.row.Row.{Row}
use Rattle.isl_piece.specs.Row.{HoldsRow}
use Rattle.isl_piece.specs.System.{HoldRows}

-- no row holds wherever the others do
abbrev pub AreIndependent : ℕ → List Row → Type 0
AreIndependent columns rows =
    (before : List Row) (r : Row) (behind : List Row) → rows ≡ before ++ r ∷ behind
    → ¬ ((point : List ℤ) → length point ≡ columns → HoldRows (before ++ behind) point → HoldsRow r point)
