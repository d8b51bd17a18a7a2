use Rattle.std.proofs.Common.{◌≡◌, ◌∙◌, ap, ap₂, sym, arith, ◌<◌, ◌++◌, ◌∷◌, [], length, get_or, pos, to_z, of_z}
use Rattle.std.specs.Int.{w128}
use Rattle.std.proofs.lemmas.Grind.{common_steps}
use Rattle.std.proofs.lemmas.Int.{to_z-of_z}
use Rattle.std.proofs.lemmas.List.{get_or_default}
use Rattle.isl_space.specs.Space.{space_form_of}
use Rattle.isl_piece.specs.Piece.{with_rows}
use Rattle.isl_union.specs.Sample.{number_row}
use Rattle.isl_union.proofs.SampleLaws.{numbers_more, numbers_piece}
use Rattle.isl_union.proofs.sample.only_piece.Goals as goal

pub loop-column-preserved : goal.loop-column-preserved
loop-column-preserved c =
    let space = space_form_of c.args.space.now in
    let point = c.args.point.now in
    let columns = length point in
    let i = c.loop-column.column in
    let z = get_or point i (pos 0) in
    let low : i < length point = omega arith in
    let read : to_z w128 (of_z w128 z) ≡ z = grind (arith, common_steps, to_z-of_z) in
    let row = c.in_ok-number_row.ensures ∙ ap (number_row columns i) read in
    record {
      piece = c.in_ok-push_row.ensures.ok
          ∙ ap₂ (λ p r. with_rows p (p.system.rows ++ r ∷ [])) c.loop-column.invariant.piece row
          ∙ ap (numbers_piece space columns) (sym (numbers_more columns point i z low (get_or_default point i z (pos 0) low)));
    }
