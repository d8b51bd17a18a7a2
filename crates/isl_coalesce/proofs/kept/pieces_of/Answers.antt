use Rattle.std.proofs.Common.{◌≡◌, ◌∙◌, ◌<◌, ◌++◌, [], ◌∷◌, List, ap, ap₂, arith, length, sym, take}
use Rattle.std.proofs.lemmas.Grind.{common_steps}
use Rattle.std.proofs.lemmas.List.{append-nil}
use Rattle.isl_piece.specs.Piece.{PieceView}
use Rattle.isl_coalesce.specs.Slots.{held, present}
use Rattle.isl_coalesce.proofs.SlotLaws.{present_more}
use Rattle.isl_coalesce.proofs.kept.pieces_of.Goals.{in-Some+in_ok-copy+in_ok-push, in_default}
use Rattle.isl_coalesce.proofs.kept.pieces_of.Goals as goal

pub loop-slot-preserved : goal.loop-slot-preserved
loop-slot-preserved c =
    let slots = c.args.slots.now in
    let i = c.loop-slot.slot-index in
    let slot = c.slot-item.result in
    let low : i < length slots = omega arith in
    let so_far = c.loop-slot.invariant in
    let more = present_more slots i slot low c.slot-item.is in
    elim c.match-slot.branch [
      | in-Some+in_ok-copy+in_ok-push w ↦
          let piece = w.in_ok-copy.field-0 in
          let copied : held slot ≡ piece ∷ [] = grind (arith, common_steps) in
          let pushed : c.match-slot.pieces.items ≡ c.loop-slot.pieces.items ++ piece ∷ [] = grind (arith, common_steps) in
          pushed ∙ ap₂ (λ (a b : List PieceView). a ++ b) so_far (sym copied) ∙ sym more
      | in_default w ↦
          let none : held slot ≡ [] = grind (arith, common_steps) in
          let same : c.match-slot.pieces.items ≡ c.loop-slot.pieces.items = grind (arith, common_steps) in
          same ∙ so_far ∙ sym (append-nil (present (take i slots))) ∙ ap (λ (l : List PieceView). present (take i slots) ++ l) (sym none)
          ∙ sym more
    ]
