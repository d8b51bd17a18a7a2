use Rattle.std.proofs.Common.{◌≡◌, true, take}
use Rattle.isl_text.specs.Formed.{are_distinct}
use Rattle.isl_text.proofs.formed.many_are_distinct.Given as goal

abbrev pub invariant-loop-name : goal.invariant-loop-name
invariant-loop-name l = (l.before.keys ≡ take l.name-index l.names) × (are_distinct l.before.keys ≡ true)
