-- public: rows that end a column on one side, wherever the other numbers stand. (isl manual, on bounded sets)
use Rattle.std.specs.Prelude.{◌≢◌, ℕ, ℤ, pos, ◌<ℤ◌, List, Any}
use Rattle.isl_piece.specs.declared.row.RowKind.{RowKind}
use Rattle.isl_piece.specs.declared.row.RowKind.TheVariants.{Zero, AtLeast, Divides, NotDivides}
use Rattle.isl_piece.specs.declared.row.Row.{Row}
use Rattle.isl_piece.specs.Row.{coef_at}

-- a row of this kind ends a column with the coefficient c from below
abbrev pub EndsBelow : RowKind → ℤ → Type 0
EndsBelow Zero c = c ≢ pos 0
EndsBelow AtLeast c = pos 0 <ℤ c
EndsBelow Divides c = ⊥
EndsBelow NotDivides c = ⊥

-- and from above
abbrev pub EndsAbove : RowKind → ℤ → Type 0
EndsAbove Zero c = c ≢ pos 0
EndsAbove AtLeast c = c <ℤ pos 0
EndsAbove Divides c = ⊥
EndsAbove NotDivides c = ⊥

-- some row is a lower end of the column
abbrev pub HasLowerEnd : ℕ → List Row → Type 0
HasLowerEnd col rows = Any (λ r. EndsBelow r.kind (coef_at r col)) rows

-- some row is an upper end
abbrev pub HasUpperEnd : ℕ → List Row → Type 0
HasUpperEnd col rows = Any (λ r. EndsAbove r.kind (coef_at r col)) rows
