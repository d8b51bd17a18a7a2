use Rattle.std.proofs.Common.{ap, ap₂, sym, ◌∙◌, ◌++◌, ◌∷◌, [], map, List}
use Rattle.std.specs.List.{range_with_len}
use Rattle.std.proofs.lemmas.List.{map-append}
use Rattle.isl_piece.specs.declared.row.Row.{Row}
use Rattle.isl_piece.proofs.PlacedLaws.{first_push}
use Rattle.isl_images.specs.Differences.{difference_row}
use Rattle.isl_images.proofs.differences.difference_system.Goals as goal

pub loop-place-preserved : goal.loop-place-preserved
loop-place-preserved c =
    let row = difference_row c.args.parameters c.args.width in
    let i = c.loop-place.place in
    let more = ap (map row) (first_push i) ∙ map-append row (range_with_len 0 i) (i ∷ []) in
    c.in_ok-push.ensures.ok ∙ ap₂ (λ (rows : List Row) (r : Row). rows ++ r ∷ []) c.loop-place.invariant c.in_ok-difference_row.ensures
    ∙ sym more
