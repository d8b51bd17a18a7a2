use Rattle.std.proofs.Common.{◌≡◌, ◌++◌, drop, map}
use Rattle.std.specs.Prelude.{codes, string_bytes}
use Rattle.isl_row_text.specs.Joined.{each_after}
use Rattle.isl_print.proofs.tuple.write_more_entries.Given as goal

abbrev pub invariant-loop-entry : goal.invariant-loop-entry
invariant-loop-entry g l =
    string_bytes l.out ++ each_after (codes ", ") (map g.E.Entry.text (drop l.entry-index l.entries))
    ≡ string_bytes l.initial.out ++ each_after (codes ", ") (map g.E.Entry.text l.entries)
