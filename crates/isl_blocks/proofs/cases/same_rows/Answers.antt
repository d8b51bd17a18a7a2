use Rattle.std.proofs.Common.{ap, ap₂, sym, ◌∙◌, ◌+◌, ◌++◌, ◌∷◌, [], map, pos, List, ℕ}
use Rattle.std.specs.List.{range_with_len}
use Rattle.std.proofs.lemmas.List.{map-append}
use Rattle.isl_piece.specs.declared.row.RowKind.TheVariants.{Zero}
use Rattle.isl_piece.specs.declared.row.Row.{Row}
use Rattle.isl_piece.proofs.PlacedLaws.{first_push}
use Rattle.isl_blocks.specs.CaseRows.{compared_row}
use Rattle.isl_blocks.proofs.cases.same_rows.Goals as goal

pub loop-i-preserved : goal.loop-i-preserved
loop-i-preserved c =
    let row : ℕ → Row = λ i. compared_row Zero c.args.columns (c.args.second + i) (c.args.first + i) (pos 0) in
    let i = c.loop-i.i in
    let more = ap (map row) (first_push i) ∙ map-append row (range_with_len 0 i) (i ∷ []) in
    c.in_ok-push.ensures.ok ∙ ap₂ (λ (rows : List Row) (r : Row). rows ++ r ∷ []) c.loop-i.invariant c.in_ok-row.ensures ∙ sym more
