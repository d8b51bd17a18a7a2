use Rattle.std.proofs.Common.{◌≡◌, ◌++◌, drop}
use Rattle.isl_plain.specs.Linear.{term_times}
use Rattle.isl_plain.proofs.brackets.+times.Given as goal

abbrev pub invariant-push_term-loop-part : goal.invariant-push_term-loop-part
invariant-push_term-loop-part l =
    l.parts ++ term_times l.negative l.numbers (drop l.part-index l.term) ≡ l.initial.parts ++ term_times l.negative l.numbers l.term
