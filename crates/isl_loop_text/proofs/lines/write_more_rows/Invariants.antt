use Rattle.std.proofs.Common.{◌≡◌, ◌++◌, drop, map}
use Rattle.std.specs.Prelude.{codes, string_bytes}
use Rattle.isl_row_text.specs.Joined.{each_after}
use Rattle.isl_row_text.specs.RowText.{row_text}
use Rattle.isl_loop_text.proofs.lines.write_more_rows.Given as goal

abbrev pub invariant-loop-row : goal.invariant-loop-row
invariant-loop-row l =
    string_bytes l.out ++ each_after (codes " && ") (map (row_text l.names) (drop l.row-index l.rows))
    ≡ string_bytes l.initial.out ++ each_after (codes " && ") (map (row_text l.names) l.rows)
