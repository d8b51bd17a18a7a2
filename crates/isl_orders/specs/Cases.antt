-- inner: systems that say together how the numbers of two blocks of columns are ordered.
use Rattle.std.specs.Prelude.{◌≡◌, ◌↔◌, ◌<◌, ◌≤◌, ℕ, ℤ, List, [], All, length}
use Rattle.isl_meter.specs.Gauge.{Gauge}
use Rattle.isl_piece.specs.declared.system.System.{System}
use Rattle.isl_piece.specs.System.{HoldsSystem, IsSystemWithin, free_columns}
use Rattle.isl_elim.specs.Elimination.{HoldsAtAny}
use Rattle.isl_blocks.specs.declared.cases.Direction.{Direction}
use Rattle.isl_blocks.specs.Blocks.{block_at, numbers_of, total, width_at, widths_of}
use Rattle.isl_blocks.specs.Cases.{DiffersAt}

-- some numbers of the two blocks make the system hold, whatever the numbers of the others are
abbrev pub IsMet : List ℕ → ℕ → ℕ → System → Type 0
IsMet widths first second made =
    (xs : List ℤ) × (ys : List ℤ) × (length xs ≡ width_at widths first) × (length ys ≡ width_at widths second)
    × ((blocks : List (List ℤ)) → widths_of blocks ≡ widths → block_at blocks first ≡ xs → block_at blocks second ≡ ys
    → HoldsSystem made (numbers_of blocks))

-- some of the systems over blocks of these widths holds where P is so of the two blocks; each holds somewhere, and none defines a column
pub record AreCasesOf (widths : List ℕ) (first second : ℕ) (P : List ℤ → List ℤ → Type 0) (cases : List System) : Type 0 where
  pub points : (blocks : List (List ℤ)) → widths_of blocks ≡ widths
      → HoldsAtAny cases (numbers_of blocks) ↔ P (block_at blocks first) (block_at blocks second)
  pub within : (g : Gauge) → 8 ≤ g.bits → All (IsSystemWithin g) cases
  pub free : All (λ s. free_columns s ≡ total widths) cases
  pub definitions : All (λ s. s.definitions ≡ []) cases
  pub met : All (IsMet widths first second) cases

-- two lists first differ at one of so many places
abbrev pub DiffersBefore : Direction → ℕ → List ℤ → List ℤ → Type 0
DiffersBefore direction count xs ys = (i : ℕ) × (i < count) × DiffersAt direction i xs ys
