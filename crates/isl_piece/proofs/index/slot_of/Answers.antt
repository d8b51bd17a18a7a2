use Rattle.std.proofs.Common.{arith}
use Rattle.std.proofs.lemmas.Int.{to_z-of_z}
use Rattle.isl_piece.specs.Index.{slot_of}
use Rattle.isl_piece.proofs.index.slot_of.Goals as goal

pub returns-clause-exact : goal.returns-clause-exact
unfolding slot_of
returns-clause-exact c = grind (arith, to_z-of_z)
