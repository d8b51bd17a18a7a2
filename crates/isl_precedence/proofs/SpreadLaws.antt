-- Systems over blocks, together with others.
use Rattle.std.proofs.Common.{◌≡◌, ◌↔◌, sym, ap, ◌∙◌, ℕ, ℤ, List, [], length, IfOk, Result}
use Rattle.isl_meter.specs.Gauge.{Gauge}
use Rattle.isl_piece.specs.declared.system.System.{System}
use Rattle.isl_piece.specs.Meet.{over_same_columns}
use Rattle.isl_piece.specs.System.{HoldsSystem, IsSystemWithin, free_columns}
use Rattle.isl_blocks.specs.Blocks.{numbers_of, picked, total, IsSpread}
use Rattle.isl_blocks.proofs.WidthLaws.{numbers_long}
use Rattle.isl_images.proofs.ResultLaws.{ok_case, ok_has}
use Rattle.isl_precedence.specs.Spreads.{IsOverBlocks}

pub spread_over : (g : Gauge) (widths picks : List ℕ) (s made : System) → IsSpread g widths picks s made
    → IsOverBlocks g widths (s.definitions ≡ []) (λ blocks. HoldsSystem s (picked picks blocks)) made
spread_over g widths picks s made is = record { points = is.points; within = is.within; free = is.free; definitions = is.definitions }

-- two at once
module _ {E : Type 0} (g : Gauge) (widths : List ℕ) (A B : Type 0) (P Q : List (List ℤ) → Type 0) (own other : System)
    (one : IsOverBlocks g widths A P own) (two : IsOverBlocks g widths B Q other) where
  pub meet_made : (r : Result System E)
      → ((point : List ℤ) → length point ≡ free_columns own
      → IfOk r (λ s. HoldsSystem s point ↔ (HoldsSystem own point × HoldsSystem other point)))
      → IfOk r (IsSystemWithin g) → IfOk r (λ s. free_columns s ≡ free_columns own)
      → (own.definitions ≡ other.definitions → IfOk r (λ s. s ≡ over_same_columns own other))
      → IfOk r (IsOverBlocks g widths (A × B) (λ blocks. P blocks × Q blocks))
  meet_made r points within free same = ok_case r (IsOverBlocks g widths (A × B) (λ blocks. P blocks × Q blocks)) (λ s is. record {
    points = λ blocks e.
        let long : length (numbers_of blocks) ≡ free_columns own = numbers_long blocks ∙ ap total e ∙ sym one.free in
        let a = ok_has r s (λ t. HoldsSystem t (numbers_of blocks) ↔ (HoldsSystem own (numbers_of blocks) × HoldsSystem other
        (numbers_of blocks)))
        is (points (numbers_of blocks) long) in
        let b = one.points blocks e in
        let c = two.points blocks e in (
          (λ h. let k = a.0 h in (b.0 k.0, c.0 k.1)),
          (λ h. a.1 (b.1 h.0, c.1 h.1)),
        );
    within = ok_has r s (IsSystemWithin g) is within;
    free = ok_has r s (λ t. free_columns t ≡ free_columns own) is free ∙ one.free;
    definitions = λ h.
        let both = ok_has r s (λ t. t ≡ over_same_columns own other) is (same (one.definitions h.0 ∙ sym (two.definitions h.1))) in
        ap (λ (t : System). t.definitions) both ∙ one.definitions h.0;
  })
