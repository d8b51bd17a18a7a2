use Rattle.std.proofs.Common.{◌≡◌, ◌++◌, drop}
use Rattle.std.specs.Prelude.{string_bytes}
use Rattle.isl_refute.specs.CertText.{numbers_text}
use Rattle.isl_refute.proofs.text.write_numbers.Given as goal

abbrev pub invariant-loop-number : goal.invariant-loop-number
invariant-loop-number l =
    string_bytes l.out ++ numbers_text (drop l.number-index l.numbers) ≡ string_bytes l.fn.out ++ numbers_text l.numbers
