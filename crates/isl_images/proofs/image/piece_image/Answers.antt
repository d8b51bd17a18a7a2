use Rattle.isl_images.proofs.image.piece_image.Goals as goal

pub returns-in-Domain-clause-made : goal.returns-in-Domain-clause-made
returns-in-Domain-clause-made c = rw c.in-Domain.is c.piece_domain.ensures.made

pub returns-in-Range-clause-made : goal.returns-in-Range-clause-made
returns-in-Range-clause-made c = rw c.in-Range.is c.piece_range.ensures.made

pub returns-in-Deltas-clause-made : goal.returns-in-Deltas-clause-made
returns-in-Deltas-clause-made c = rw c.in-Deltas.is c.piece_deltas.ensures.made
