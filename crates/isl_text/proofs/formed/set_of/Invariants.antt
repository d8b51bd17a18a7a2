use Rattle.std.proofs.Common.{take}
use Rattle.isl_text.specs.Formed.{HaveSameNames}
use Rattle.isl_text.proofs.formed.set_of.Given as goal

abbrev pub invariant-loop-name : goal.invariant-loop-name
invariant-loop-name l = HaveSameNames l.set.keys (take l.name-index l.names)
