use Rattle.std.proofs.Common.{take}
use Rattle.isl_elim.specs.Elimination.{HoldsAtAny}
use Rattle.isl_alternatives.specs.Restricted.{AreRestricted}
use Rattle.isl_alternatives.proofs.lists.without.Given as goal

abbrev pub invariant-loop-system : goal.invariant-loop-system
invariant-loop-system l = AreRestricted l.fn.meter l.meter l.scope (take l.system-index l.systems) (λ point env. ¬ HoldsAtAny l.others point) l.found.items
