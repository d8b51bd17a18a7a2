-- inner: systems over more blocks that hold where several others do.
use Rattle.std.specs.Prelude.{◌≡◌, ◌↔◌, ℕ, ℤ, List, [], ◌∷◌}
use Rattle.isl_meter.specs.Gauge.{Gauge}
use Rattle.isl_piece.specs.declared.system.System.{System}
use Rattle.isl_piece.specs.System.{HoldsSystem, IsSystemWithin, free_columns}
use Rattle.isl_blocks.specs.Blocks.{numbers_of, picked, total, widths_of}

-- the system over blocks of these widths holds where P is so of them
pub record IsOverBlocks (g : Gauge) (widths : List ℕ) (Plain : Type 0) (P : List (List ℤ) → Type 0) (made : System) : Type 0 where
  pub points : (blocks : List (List ℤ)) → widths_of blocks ≡ widths → HoldsSystem made (numbers_of blocks) ↔ P blocks
  pub within : IsSystemWithin g made
  pub free : free_columns made ≡ total widths
  pub definitions : Plain → made.definitions ≡ []

-- the first system holds at the first picks, and the second at the others
abbrev pub HoldBoth : System → List ℕ → System → List ℕ → List (List ℤ) → Type 0
HoldBoth first firsts second seconds blocks = HoldsSystem first (picked firsts blocks) × HoldsSystem second (picked seconds blocks)

-- the blocks of a source, a sink, their access and their times
abbrev pub source_blocks : List ℕ
source_blocks = 0 ∷ 1 ∷ 3 ∷ []

abbrev pub sink_blocks : List ℕ
sink_blocks = 0 ∷ 2 ∷ 3 ∷ []

abbrev pub start_blocks : List ℕ
start_blocks = 0 ∷ 1 ∷ 4 ∷ []

abbrev pub stop_blocks : List ℕ
stop_blocks = 0 ∷ 2 ∷ 5 ∷ []

-- all four
abbrev pub HoldFour : System → System → System → System → List (List ℤ) → Type 0
HoldFour m n t u blocks = HoldBoth m source_blocks n sink_blocks blocks × HoldBoth t start_blocks u stop_blocks blocks
