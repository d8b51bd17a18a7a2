use Rattle.std.proofs.Common.{◌≡◌, ◌<◌, ℕ, false, take, length, get_or, arith}
use Rattle.std.proofs.lemmas.Grind.{common_steps}
use Rattle.std.proofs.lemmas.List.Elements.{All-more}
use Rattle.isl_piece.specs.Normal.{same_bound}
use Rattle.isl_piece.proofs.index.Slot.place_of.Goals as goal
use Rattle.isl_piece.proofs.index.Slot.place_of.Goals.{else-place-rows-via-then-place-rows+else-is_same_bound}
use Rattle.isl_piece.proofs.index.Slot.place_of.Goals.{else-place-rows-via-else-place-rows}

pub loop-place-preserved : goal.loop-place-preserved
loop-place-preserved c =
    let rows = c.args.rows.now in
    let row = c.args.row.now in
    let at = c.loop-place.place-index in
    let inside : at < length c.args.self.now = grind (arith, common_steps) in
    All-more (λ (place : ℕ). place < length rows → same_bound (get_or rows place row) row ≡ false)
    c.args.self.now at 0 inside c.loop-place.invariant
    (elim c.else-place-rows.branch [
      | else-place-rows-via-then-place-rows+else-is_same_bound w ↦ grind (arith, common_steps)
      | else-place-rows-via-else-place-rows w ↦ grind (arith, common_steps)
    ])

pub returns : goal.returns
returns c =
    let whole : take c.loop-place.place-index c.args.self.now ≡ c.args.self.now = grind (arith, common_steps) in
    rw whole at c.loop-place.invariant
