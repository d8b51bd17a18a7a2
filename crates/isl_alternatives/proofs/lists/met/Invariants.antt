use Rattle.std.proofs.Common.{take}
use Rattle.isl_elim.specs.Elimination.{HoldsAtAny}
use Rattle.isl_alternatives.specs.Restricted.{AreRestricted}
use Rattle.isl_alternatives.proofs.lists.met.Given as goal

abbrev pub invariant-loop-other : goal.invariant-loop-other
invariant-loop-other l = AreRestricted l.fn.meter l.meter l.scope l.systems (λ point env. HoldsAtAny (take l.other-index l.others) point) l.found.items
