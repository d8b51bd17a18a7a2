use Rattle.isl_union.proofs.bounded.is_plain_bounded.Goals as goal

pub returns-in-Each-clause-exact : goal.returns-in-Each-clause-exact
returns-in-Each-clause-exact c = rw c.in-Each.is c.is_bounded.ensures.exact

pub returns-in-At-clause-exact : goal.returns-in-At-clause-exact
returns-in-At-clause-exact c = rw c.in-At.is c.is_bounded_at.ensures.exact
