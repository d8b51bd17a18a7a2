use Rattle.std.proofs.Common.{◌≡◌, ◌++◌, drop, map}
use Rattle.std.specs.Prelude.{codes, string_bytes}
use Rattle.std.specs.Fmt.{signed_decimal}
use Rattle.isl_row_text.specs.Joined.{each_after}
use Rattle.isl_ast.proofs.text.write_more_numbers.Given as goal

abbrev pub invariant-loop-number : goal.invariant-loop-number
invariant-loop-number l =
    string_bytes l.out ++ each_after (codes ", ") (map signed_decimal (drop l.number-index l.numbers))
    ≡ string_bytes l.initial.out ++ each_after (codes ", ") (map signed_decimal l.numbers)
