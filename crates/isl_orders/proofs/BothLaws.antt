-- Two systems at picked blocks of columns.
use Rattle.std.proofs.Common.{◌≡◌, ◌↔◌, sym, ap, ◌∙◌, ℕ, ℤ, List, length}
use Rattle.isl_meter.specs.Gauge.{Gauge}
use Rattle.isl_piece.specs.declared.system.System.{System}
use Rattle.isl_piece.specs.System.{HoldsSystem, IsSystemWithin, free_columns}
use Rattle.isl_blocks.specs.Blocks.{numbers_of, total, IsSpread}
use Rattle.isl_blocks.proofs.WidthLaws.{numbers_long}
use Rattle.isl_orders.specs.Both.{IsBoth}

pub both_made : (g : Gauge) (widths : List ℕ) (own : System) (picks : List ℕ) (other : System) (others : List ℕ)
    (first second made : System)
    → IsSpread g widths picks own first → IsSpread g widths others other second
    → ((point : List ℤ) → length point ≡ free_columns first → HoldsSystem made point ↔ (HoldsSystem first point × HoldsSystem second point))
    → IsSystemWithin g made → free_columns made ≡ free_columns first → IsBoth g widths own picks other others made
both_made g widths own picks other others first second made p q points within free = record {
  points = λ blocks are.
      let met = points (numbers_of blocks) (numbers_long blocks ∙ ap total are ∙ sym p.free) in
      let a = p.points blocks are in
      let b = q.points blocks are in
      ((λ h. (a.0 (met.0 h).0, b.0 (met.0 h).1)), (λ k. met.1 (a.1 k.0, b.1 k.1)));
  within = within;
  free = free ∙ p.free;
}
