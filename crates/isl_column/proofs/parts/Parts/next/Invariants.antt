use Rattle.isl_column.specs.Parts.{residues_left}
use Rattle.isl_column.proofs.PartsLemmas.{ArePartsSoFar}
use Rattle.isl_column.proofs.parts.Parts.next.Given as goal

abbrev pub invariant-loop-found : goal.invariant-loop-found
invariant-loop-found l = ArePartsSoFar l.fn.meter l.meter l.columns l.fn.self l.self

abbrev pub decreases-loop-found : goal.decreases-loop-found
decreases-loop-found l = residues_left l.self.residues
