use Rattle.isl_alternatives.proofs.lists.selected.Goals as goal

pub returns-then-not-holds : goal.returns-then-not-holds
returns-then-not-holds c = rw c.if-not-holds.true (rw c.as_slice.ensures.value at c.without.ensures)
