use Rattle.std.proofs.Common.{◌≡◌, ◌++◌, drop, string_bytes}
use Rattle.isl_row_text.specs.Sum.{rest_of_sum, summands, side_text}
use Rattle.isl_row_text.proofs.sum.write_side.Given as goal

abbrev pub invariant-loop-column : goal.invariant-loop-column
invariant-loop-column l =
    string_bytes l.out ++ rest_of_sum l.is_first (summands l.side (drop l.column l.names) (drop l.column l.coefs) l.row.constant)
    ≡ string_bytes l.initial.out ++ side_text l.side l.names l.row.coefs l.row.constant
