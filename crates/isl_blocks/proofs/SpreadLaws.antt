-- A system over more blocks of columns.
use Rattle.std.proofs.Common.{◌≡◌, ◌↔◌, sym, ap, ◌∙◌, subst, ℕ, ℤ, List, [], length}
use Rattle.isl_meter.specs.Gauge.{Gauge}
use Rattle.isl_piece.specs.declared.definition.Definition.{Definition}
use Rattle.isl_piece.specs.declared.system.System.{System}
use Rattle.isl_piece.specs.Meet.{numbers_at}
use Rattle.isl_piece.specs.Placed.{placed_system, placing_of}
use Rattle.isl_piece.specs.System.{HoldsSystem, IsSystemWithin, free_columns}
use Rattle.isl_blocks.specs.Blocks.{numbers_of, picked, places_of, total, IsSpread}
use Rattle.isl_blocks.proofs.BlockLaws.{numbers_of_picked}
use Rattle.isl_blocks.proofs.WidthLaws.{numbers_long}

placed_plain : (columns : ℕ) (places : List ℕ) (s : System) → s.definitions ≡ [] → (placed_system columns places s).definitions ≡ []
placed_plain columns places s none = ap (λ (ds : List Definition). (placing_of columns places ds).definitions) none

module _ (g : Gauge) (widths picks : List ℕ) (s made : System) {columns : ℕ} {places : List ℕ} (all : columns ≡ total widths)
    (at : places ≡ places_of widths picks) where
  pub spread_made : ((point : List ℤ) → length point ≡ columns → HoldsSystem made point ↔ HoldsSystem s (numbers_at places point))
      → IsSystemWithin g made × (free_columns made ≡ columns) → made ≡ placed_system columns places s → IsSpread g widths picks s made
  spread_made points within exact = record {
    points = λ blocks are.
        let long : length (numbers_of blocks) ≡ columns = numbers_long blocks ∙ ap total are ∙ sym all in
        let same : numbers_at places (numbers_of blocks) ≡ picked picks blocks =
        ap (λ ps. numbers_at ps (numbers_of blocks)) (at ∙ ap (λ ws. places_of ws picks) (sym are)) ∙ numbers_of_picked blocks picks in
        subst (λ xs. HoldsSystem made (numbers_of blocks) ↔ HoldsSystem s xs) same (points (numbers_of blocks) long);
    within = within.0;
    free = within.1 ∙ all;
    definitions = λ none. ap (λ (t : System). t.definitions) exact ∙ placed_plain columns places s none;
  }
