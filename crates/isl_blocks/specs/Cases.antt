-- public: where one list of numbers comes before another, and systems that say so of two blocks. (isl manual, lexicographic order)
use Rattle.std.specs.Prelude.{◌≡◌, ◌↔◌, ◌≤◌, ℕ, ℤ, pos, ◌<ℤ◌, List, [], get_or, take}
use Rattle.isl_meter.specs.Gauge.{Gauge}
use Rattle.isl_piece.specs.declared.system.System.{System}
use Rattle.isl_piece.specs.System.{HoldsSystem, IsSystemWithin, free_columns}
use Rattle.isl_blocks.specs.declared.cases.Direction.{Direction}
use Rattle.isl_blocks.specs.declared.cases.Direction.TheVariants.{Before, After}
use Rattle.isl_blocks.specs.Blocks.{block_at, numbers_of, total, widths_of}

-- the first i numbers are the same, and the next one is less
pub record IsBeforeAt (i : ℕ) (xs ys : List ℤ) : Type 0 where
  pub same : take i xs ≡ take i ys
  pub less : get_or xs i (pos 0) <ℤ get_or ys i (pos 0)

-- the next one is less, or it is greater
abbrev pub DiffersAt : Direction → ℕ → List ℤ → List ℤ → Type 0
DiffersAt Before i xs ys = IsBeforeAt i xs ys
DiffersAt After i xs ys = IsBeforeAt i ys xs

-- the system over blocks of these widths defines no column, and holds where P is so of the two blocks
pub record IsCaseOf (widths : List ℕ) (first second : ℕ) (P : List ℤ → List ℤ → Type 0) (made : System) : Type 0 where
  pub points : (blocks : List (List ℤ)) → widths_of blocks ≡ widths
      → HoldsSystem made (numbers_of blocks) ↔ P (block_at blocks first) (block_at blocks second)
  pub within : (g : Gauge) → 8 ≤ g.bits → IsSystemWithin g made
  pub free : free_columns made ≡ total widths
  pub definitions : made.definitions ≡ []
