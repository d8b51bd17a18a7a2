use Rattle.std.proofs.Common.{◌≡◌, ◌++◌, drop}
use Rattle.std.specs.Prelude.{codes, string_bytes}
use Rattle.isl_row_text.specs.Joined.{each_after}
use Rattle.isl_quast.proofs.tuple.write_more_names.Given as goal

abbrev pub invariant-loop-name : goal.invariant-loop-name
invariant-loop-name l =
    string_bytes l.out ++ each_after (codes ", ") (drop l.name-index l.names) ≡ string_bytes l.initial.out ++ each_after (codes ", ") l.names
