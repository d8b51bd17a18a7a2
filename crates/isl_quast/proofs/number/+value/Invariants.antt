use Rattle.std.proofs.Common.{◌≡◌, drop}
use Rattle.isl_ast.specs.Size.{atom_size, expr_size, size_of_exprs, size_of_items}
use Rattle.isl_ast.specs.Value.{IsChosen, IsSummed}
use Rattle.isl_quast.specs.Value.{better}
use Rattle.isl_quast.proofs.number.+value.Given as goal

abbrev pub invariant-total-loop-item : goal.invariant-total-loop-item
invariant-total-loop-item l = IsSummed l.fn.meter l.point l.items l.sum (drop l.item-index l.items) × (l.meter ≡ l.fn.meter)

abbrev pub invariant-best_of-loop-part : goal.invariant-best_of-loop-part
invariant-best_of-loop-part l =
    IsChosen l.fn.meter l.point (better l.which) l.parts l.best (drop l.part-index l.parts) × (l.meter ≡ l.fn.meter)

abbrev pub decreases-value : goal.decreases-value
decreases-value l = expr_size l.expr.now

abbrev pub decreases-total : goal.decreases-total
decreases-total l = size_of_items l.items.now

abbrev pub decreases-atom_value : goal.decreases-atom_value
decreases-atom_value l = atom_size l.atom.now

abbrev pub decreases-best_of : goal.decreases-best_of
decreases-best_of l = size_of_exprs l.parts.now
