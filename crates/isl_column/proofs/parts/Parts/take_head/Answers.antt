use Rattle.std.proofs.Common.{◌≡◌, None, arith}
use Rattle.isl_column.proofs.PartsLemmas.{head_taken}
use Rattle.isl_column.proofs.parts.Parts.take_head.Goals as goal

pub returns-clause-part : goal.returns-clause-part
returns-clause-part c = λ g columns are. head_taken g columns c.args.self.now c.take.new.self c.take.result are (grind arith) (grind arith)

pub returns-clause-alone : goal.returns-clause-alone
returns-clause-alone c = λ head x. let none : c.take.new.self ≡ None = grind arith in record { head = none; tails = x.tails; residues = x.residues }
