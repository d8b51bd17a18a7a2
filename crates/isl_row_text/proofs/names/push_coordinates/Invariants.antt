use Rattle.std.proofs.Common.{◌≡◌, ◌-◌, ◌++◌}
use Rattle.isl_row_text.specs.Naming.{numbered}
use Rattle.isl_row_text.proofs.names.push_coordinates.Given as goal

abbrev pub invariant-loop-number : goal.invariant-loop-number
invariant-loop-number l = l.names.items ++ numbered l.params l.letter l.number (l.count - l.number) ≡ l.initial.names.items ++ numbered l.params l.letter 0 l.count
