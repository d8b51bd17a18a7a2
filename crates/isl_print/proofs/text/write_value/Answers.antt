use Rattle.std.proofs.Common.{arith, List, All, subst, sym}
use Rattle.std.specs.Prelude.{string_bytes}
use Rattle.std.proofs.lemmas.Grind.{common_steps}
use Rattle.isl_space.specs.Name.{Name}
use Rattle.isl_union.specs.KeptValue.{IsKeptPiece}
use Rattle.isl_union.specs.Piece.{kept_piece}
use Rattle.isl_row_text.specs.Ordered.{in_order}
use Rattle.isl_print.specs.PieceOrder.{piece_before}
use Rattle.isl_print.proofs.TextLaws.{All-map_back, All-in_order, value_written}
use Rattle.isl_print.proofs.text.write_value.Goals as goal

pub write_pieces-requires : goal.write_pieces-requires
write_pieces-requires c =
    let value = c.args.value.now in
    All-map_back (λ titled. kept_piece titled.piece.now) (IsKeptPiece c.params-2.result.now) c.as_slice.result.now (in_order piece_before value.pieces) (grind (arith, common_steps))
    (All-in_order piece_before (IsKeptPiece c.params-2.result.now) value.pieces
    (subst (λ (ps : List Name). All (IsKeptPiece ps) value.pieces) (sym c.params-2.ensures.content) c.pieces.ensures.kept.pieces))

pub returns : goal.returns
returns c =
    value_written (λ titled. kept_piece titled.piece.now) c.args.value.now c.in_ok-pieces.pieces.items c.params-2.result.now (string_bytes c.args.out.now) (string_bytes c.write_params.new.out) _ c.params-2.ensures.content
    (grind (arith, common_steps)) (grind (arith, common_steps)) (grind (arith, common_steps))
