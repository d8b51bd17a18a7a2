use Rattle.std.proofs.Common.{◌≡◌}
use Rattle.isl_elim.proofs.line.value_at.Given as goal

abbrev pub invariant-loop-coef : goal.invariant-loop-coef
invariant-loop-coef l =
    (goal.iterator-loop-coef).can_next l.coef-iterator ×
    (goal.iterator-loop-coef).is_finite l.coef-iterator ×
    (l.meter ≡ l.fn.meter)
