use Rattle.std.proofs.Common.{◌≡◌, ◌++◌, drop, map}
use Rattle.std.specs.Prelude.{codes, string_bytes}
use Rattle.isl_union.specs.Piece.{kept_piece}
use Rattle.isl_row_text.specs.Joined.{each_after}
use Rattle.isl_print.specs.Printed.{piece_text}
use Rattle.isl_print.proofs.text.write_rest_of_pieces.Given as goal

abbrev pub invariant-loop-titled : goal.invariant-loop-titled
invariant-loop-titled l =
    string_bytes l.out ++ each_after (codes "; ") (map (λ titled. piece_text l.params (kept_piece titled.piece.now)) (drop l.titled-index l.pieces))
    ≡ string_bytes l.initial.out ++ each_after (codes "; ") (map (λ titled. piece_text l.params (kept_piece titled.piece.now)) l.pieces)
