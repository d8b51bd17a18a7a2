use Rattle.std.proofs.Common.{◌+◌, take}
use Rattle.isl_alternatives.specs.Restricted.{AreRestricted, AllAs, AnyAs}
use Rattle.isl_alternatives.specs.Size.{size_of, list_size}
use Rattle.isl_alternatives.proofs.FormulaLaws.{IsImpliedSoFar}
use Rattle.isl_alternatives.proofs.formulas.+formula.Given as goal

abbrev pub invariant-each_of-loop-formula : goal.invariant-each_of-loop-formula
invariant-each_of-loop-formula l = AreRestricted l.fn.meter l.meter l.scope l.fn.systems.items (AllAs l.polarity.holds (take l.formula-index l.formulas)) l.systems.items

abbrev pub invariant-any_of-loop-formula : goal.invariant-any_of-loop-formula
invariant-any_of-loop-formula l = AreRestricted l.fn.meter l.meter l.scope l.systems.items (AnyAs l.holds (take l.formula-index l.formulas))
    l.found.items

abbrev pub invariant-implied-loop-count : goal.invariant-implied-loop-count
invariant-implied-loop-count l = IsImpliedSoFar l.fn.meter l.meter l.scope l.fn.systems.items l.fn.holds l.formulas l.count l.holds l.systems.items l.found.items

abbrev pub decreases-implied-loop-count : goal.decreases-implied-loop-count
decreases-implied-loop-count l = l.count

abbrev pub decreases-restricted : goal.decreases-restricted
decreases-restricted l = size_of l.formula.now

abbrev pub decreases-narrowed : goal.decreases-narrowed
decreases-narrowed l = 1 + size_of l.formula.now

abbrev pub decreases-each_of : goal.decreases-each_of
decreases-each_of l = list_size l.formulas.now

abbrev pub decreases-any_of : goal.decreases-any_of
decreases-any_of l = list_size l.formulas.now

abbrev pub decreases-implied : goal.decreases-implied
decreases-implied l = list_size l.formulas.now

abbrev pub decreases-exists : goal.decreases-exists
decreases-exists l = 1 + size_of l.body.now
