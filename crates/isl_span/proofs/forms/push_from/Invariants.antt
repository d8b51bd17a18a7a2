use Rattle.std.proofs.Common.{◌≡◌, ◌++◌, drop}
use Rattle.isl_span.proofs.forms.push_from.Given as goal

abbrev pub invariant-loop-i : goal.invariant-loop-i
invariant-loop-i l = l.rows ++ drop l.i l.others ≡ l.initial.rows ++ drop l.from l.others
