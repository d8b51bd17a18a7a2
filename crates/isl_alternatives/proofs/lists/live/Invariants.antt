use Rattle.isl_alternatives.proofs.RestrictedLaws.{AreDone}
use Rattle.isl_alternatives.proofs.lists.live.Given as goal

abbrev pub invariant-loop-system : goal.invariant-loop-system
invariant-loop-system l = AreDone l.fn.meter l.meter l.scope l.fn.systems.items l.system-iterator.rest.items (λ point env. Unit {0}) l.live.items
