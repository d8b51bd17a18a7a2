use Rattle.isl_orders.proofs.compare.compared.Goals as goal

pub returns-in-Sets-clause-made : goal.returns-in-Sets-clause-made
returns-in-Sets-clause-made c = rw c.in-Sets.is c.compared_sets.ensures.made

pub returns-in-Maps-clause-made : goal.returns-in-Maps-clause-made
returns-in-Maps-clause-made c = rw c.in-Maps.is c.compared_maps.ensures.made
