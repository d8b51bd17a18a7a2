use Rattle.std.proofs.Common.{◌≡◌, length}
use Rattle.isl_text.specs.Formed.{are_distinct}
use Rattle.isl_text.proofs.formed.few_are_distinct.Given as goal

abbrev pub invariant-loop-names : goal.invariant-loop-names
invariant-loop-names l = are_distinct l.names ≡ are_distinct l.initial.names

abbrev pub decreases-loop-names : goal.decreases-loop-names
decreases-loop-names l = length l.names
