-- public: the rows of a system in which defined columns are free. (isl manual, on integer divisions)
use Rattle.std.specs.Prelude.{◌≡◌, if◌then◌else◌, nat_eq, ℕ, suc, ◌-◌, ℤ, pos, negsuc, neg_ℤ, ◌-ℤ◌, List, [], ◌∷◌, ◌++◌, All, length, replicate, take}
use Rattle.std.specs.List.{list_any}
use Rattle.isl_math.specs.Dot.{scaled}
use Rattle.isl_meter.specs.Gauge.{Gauge}
use Rattle.isl_piece.specs.declared.definition.Definition.{Definition}
use Rattle.isl_piece.specs.declared.row.Row.{Row}
use Rattle.isl_piece.specs.declared.system.System.{System}
use Rattle.isl_piece.specs.Normal.{IsNormal, bound}
use Rattle.isl_piece.specs.System.{HoldRows, HoldsSystem, free_columns}
use Rattle.isl_omega.specs.Column.{IsProper}

-- ---- the rows of a definition
-- coefficients, and 0 at the columns behind them
abbrev pub padded : ℕ → List ℤ → List ℤ
padded columns cs = cs ++ replicate (columns - length cs) (pos 0)

-- the form is at least k times the column
abbrev pub least_row : ℕ → Definition → Row
least_row columns d = bound (padded columns (d.coefs ++ neg_ℤ d.k ∷ [])) d.constant

-- and at most k - 1 more
abbrev pub most_row : ℕ → Definition → Row
most_row columns d = bound (padded columns (scaled (negsuc 0) d.coefs ++ d.k ∷ [])) (d.k -ℤ pos 1 -ℤ d.constant)

-- the rows that say of each definition's column what it stands for
abbrev pub definition_rows : ℕ → List Definition → List Row
definition_rows columns [] = []
definition_rows columns (d ∷ definitions) = least_row columns d ∷ most_row columns d ∷ definition_rows columns definitions

-- the elements that stand at the columns, in order, where the first stands at the column i
abbrev pub only_from : {A : Type 0} → ℕ → List ℕ → List A → List A
only_from i cols [] = []
only_from i cols (x ∷ xs) = if list_any (λ c. nat_eq c i) cols then x ∷ only_from (suc i) cols xs else only_from (suc i) cols xs

-- the rows of a system, and those of the definitions whose columns are among these
abbrev pub opened_rows : System → List ℕ → List Row
opened_rows s cols = s.rows ++ definition_rows s.columns (only_from (free_columns s) cols s.definitions)

-- ---- inside
-- normal rows over all columns, which hold at some numbers with these in front exactly where the system holds
pub record AreOpened (g : Gauge) (s : System) (rows : List Row) : Type 0 where
  pub proper : All (IsProper g s.columns) rows
  pub normal : IsNormal rows
  pub forth : (whole : List ℤ) → length whole ≡ s.columns → HoldRows rows whole → HoldsSystem s (take (free_columns s) whole)
  pub back : (point : List ℤ) → length point ≡ free_columns s → HoldsSystem s point → (whole : List ℤ) × (length whole ≡ s.columns) × HoldRows rows whole
