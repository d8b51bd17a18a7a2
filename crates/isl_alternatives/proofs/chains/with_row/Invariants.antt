use Rattle.isl_alternatives.proofs.ChainLaws.{Where}
use Rattle.isl_alternatives.proofs.RestrictedLaws.{AreDone}
use Rattle.isl_alternatives.proofs.chains.with_row.Given as goal

abbrev pub invariant-loop-system : goal.invariant-loop-system
invariant-loop-system l = AreDone l.fn.meter l.meter l.scope l.fn.systems.items l.system-iterator.rest.items
    (Where (l.comparison.left.now, l.comparison.compare, l.comparison.right.now)) l.new.items
