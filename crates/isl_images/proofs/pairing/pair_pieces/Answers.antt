use Rattle.isl_images.proofs.pairing.pair_pieces.Goals as goal

pub joined-requires-clause-narrow : goal.joined-requires-clause-narrow
joined-requires-clause-narrow c = rw c.in-Join.is at c.requires.narrow

pub returns-in-Apply-clause-made : goal.returns-in-Apply-clause-made
returns-in-Apply-clause-made c = rw c.in-Apply.is c.applied.ensures.made

pub returns-in-Join-clause-made : goal.returns-in-Join-clause-made
returns-in-Join-clause-made c = rw c.in-Join.is c.joined.ensures.made

pub returns-in-Apply-clause-units : goal.returns-in-Apply-clause-units
returns-in-Apply-clause-units c = rw c.in-Apply.is c.applied.ensures.units

pub returns-in-Join-clause-units : goal.returns-in-Join-clause-units
returns-in-Join-clause-units c = rw c.in-Join.is c.joined.ensures.units
