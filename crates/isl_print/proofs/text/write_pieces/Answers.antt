use Rattle.std.proofs.Common.{arith, ◌≡◌, ◌++◌, OnOk}
use Rattle.std.specs.Prelude.{string_bytes, codes}
use Rattle.std.proofs.lemmas.Grind.{common_steps}
use Rattle.std.proofs.lemmas.Result.{on_ok_weaker}
use Rattle.isl_union.specs.Piece.{kept_piece}
use Rattle.isl_print.specs.Printed.{piece_text}
use Rattle.isl_print.proofs.TextLaws.{pieces_written}
use Rattle.isl_print.proofs.text.write_pieces.Goals as goal

pub returns-in_ok-write_rest_of_pieces-in-len1-up : goal.returns-in_ok-write_rest_of_pieces-in-len1-up
returns-in_ok-write_rest_of_pieces-in-len1-up c =
    let closed : OnOk c.push_str-in-len1-up-2.result (string_bytes c.push_str-in-len1-up-2.new.self ≡ string_bytes c.write_rest_of_pieces.new.out ++ codes " }") = grind arith in
    on_ok_weaker c.push_str-in-len1-up-2.result
    (pieces_written (λ titled. piece_text c.args.params.now (kept_piece titled.piece.now)) c.args.pieces.now c.first-item.result (string_bytes c.args.out.now)
    (string_bytes c.push_str-in-len1-up.new.self) (string_bytes c.write_piece.new.out) (string_bytes c.write_rest_of_pieces.new.out) (string_bytes c.push_str-in-len1-up-2.new.self) (grind arith) c.first-item.is c.in_ok-push_str-in-len1-up.ensures.bytes
    c.in_ok-write_piece-in-len1-up.ensures (grind (arith, common_steps))) closed
