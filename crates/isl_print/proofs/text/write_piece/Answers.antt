use Rattle.std.proofs.Common.{ap, ◌∙◌, arith}
use Rattle.std.specs.Prelude.{string_bytes}
use Rattle.std.proofs.lemmas.Grind.{common_steps}
use Rattle.std.proofs.lemmas.Result.{on_ok_weaker}
use Rattle.isl_space.specs.Space.{space_form_of}
use Rattle.isl_union.specs.Piece.{kept_piece}
use Rattle.isl_row_text.specs.Naming.{column_names}
use Rattle.isl_print.proofs.TextLaws.{names_enough, piece_written}
use Rattle.isl_print.proofs.text.write_piece.Goals as goal

pub write_tuples-requires-clause-enough : goal.write_tuples-requires-clause-enough
write_tuples-requires-clause-enough c =
    names_enough c.args.params.now _ (space_form_of c.space-space.result.now) _ (grind (arith, common_steps)) c.len.ensures.len

pub returns : goal.returns
returns c =
    on_ok_weaker c.write_conjunction.result
    (λ h. piece_written (λ row. row.now) c.args.params.now c.in_ok-names.names.items (kept_piece c.args.piece.now) c.len.result c.in_ok-rows.rows.items (string_bytes c.args.out.now) (string_bytes c.write_tuples.new.out) (string_bytes c.write_conjunction.new.out)
    (c.in_ok-names.ensures ∙ ap (column_names c.args.params.now) c.space-space.ensures) c.len.ensures.len (grind (arith, common_steps)) (grind (arith, common_steps)) (grind (arith, common_steps))) c.write_conjunction.ensures
