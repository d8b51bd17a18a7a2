-- inner: two systems at picked blocks of columns.
use Rattle.std.specs.Prelude.{◌≡◌, ◌↔◌, ℕ, ℤ, List}
use Rattle.isl_meter.specs.Gauge.{Gauge}
use Rattle.isl_piece.specs.declared.system.System.{System}
use Rattle.isl_piece.specs.System.{HoldsSystem, IsSystemWithin, free_columns}
use Rattle.isl_blocks.specs.Blocks.{numbers_of, picked, total, widths_of}

-- the system over all blocks holds where each of the two does at its picked blocks
pub record IsBoth (g : Gauge) (widths : List ℕ) (own : System) (picks : List ℕ) (other : System) (others : List ℕ) (made : System) : Type 0
  where
    pub points : (blocks : List (List ℤ)) → widths_of blocks ≡ widths
        → HoldsSystem made (numbers_of blocks) ↔ (HoldsSystem own (picked picks blocks) × HoldsSystem other (picked others blocks))
    pub within : IsSystemWithin g made
    pub free : free_columns made ≡ total widths
