-- inner: columns that rows bound on one side alone. (Pugh, the Omega test: unbounded variables)
use Rattle.std.specs.Prelude.{◌≡◌, ◌⊎◌, ℕ, ℤ, pos, negsuc, ◌*ℤ◌, ◌<ℤ◌, List, All}
use Rattle.std.specs.List.{filter}
use Rattle.std.specs.Ordering.{int_eq}
use Rattle.isl_piece.specs.declared.row.RowKind.TheVariants.{AtLeast}
use Rattle.isl_piece.specs.declared.row.Row.{Row}
use Rattle.isl_piece.specs.Row.{coef_at}

-- the row has 0 at the column, or bounds it: from below where the side is 1, from above where it is -1
abbrev pub IsOnSide : ℤ → ℕ → Row → Type 0
IsOnSide side col r = (coef_at r col ≡ pos 0) ⊎ ((r.kind ≡ AtLeast) × (pos 0 <ℤ (side *ℤ coef_at r col)))

-- the rows bound the column from below alone, or from above alone
abbrev pub IsOneSided : ℕ → List Row → Type 0
IsOneSided col rows = All (IsOnSide (pos 1) col) rows ⊎ All (IsOnSide (negsuc 0) col) rows

-- the rows that have 0 at the column
abbrev pub rows_without : ℕ → List Row → List Row
rows_without col rows = filter (λ r. int_eq (coef_at r col) (pos 0)) rows
