-- public: points made of blocks of numbers, one behind the other, and systems over some of the blocks. (isl manual, on spaces)
use Rattle.std.specs.Prelude.{◌≡◌, ◌↔◌, ℕ, zero, suc, ◌+◌, ℤ, List, [], ◌∷◌, map, flat_map, length}
use Rattle.std.specs.List.{range_with_len}
use Rattle.isl_meter.specs.Gauge.{Gauge}
use Rattle.isl_piece.specs.declared.system.System.{System}
use Rattle.isl_piece.specs.System.{HoldsSystem, IsSystemWithin, free_columns}

-- ---- blocks of numbers
-- the numbers of all blocks
abbrev pub numbers_of : List (List ℤ) → List ℤ
numbers_of blocks = flat_map (λ block. block) blocks

-- how many numbers each block has
abbrev pub widths_of : List (List ℤ) → List ℕ
widths_of blocks = map length blocks

-- the i-th block; none behind the last
abbrev pub block_at : List (List ℤ) → ℕ → List ℤ
block_at [] i = []
block_at (block ∷ blocks) zero = block
block_at (block ∷ blocks) (suc i) = block_at blocks i

-- the numbers of the picked blocks
abbrev pub picked : List ℕ → List (List ℤ) → List ℤ
picked picks blocks = flat_map (block_at blocks) picks

-- ---- widths
-- how many columns all blocks have
abbrev pub total : List ℕ → ℕ
total [] = 0
total (width ∷ widths) = width + total widths

-- how many the i-th block has; none behind the last
abbrev pub width_at : List ℕ → ℕ → ℕ
width_at [] i = 0
width_at (width ∷ widths) zero = width
width_at (width ∷ widths) (suc i) = width_at widths i

-- how many the picked blocks have
abbrev pub picked_width : List ℕ → List ℕ → ℕ
picked_width widths picks = total (map (width_at widths) picks)

-- the places of the i-th block, where the first begins at `start`
abbrev pub block_places : ℕ → List ℕ → ℕ → List ℕ
block_places start [] i = []
block_places start (width ∷ widths) zero = range_with_len start width
block_places start (width ∷ widths) (suc i) = block_places (start + width) widths i

-- those of the picked blocks, one after the other
abbrev pub places_of : List ℕ → List ℕ → List ℕ
places_of widths picks = flat_map (block_places 0 widths) picks

-- ---- systems
-- the system over all blocks that was made holds where the other does at the picked ones, and defines no column where that defines none
pub record IsSpread (g : Gauge) (widths picks : List ℕ) (system made : System) : Type 0 where
  pub points : (blocks : List (List ℤ)) → widths_of blocks ≡ widths
      → HoldsSystem made (numbers_of blocks) ↔ HoldsSystem system (picked picks blocks)
  pub within : IsSystemWithin g made
  pub free : free_columns made ≡ total widths
  pub definitions : system.definitions ≡ [] → made.definitions ≡ []
