use Rattle.isl_stmt.proofs.ReadLaws.{one_statement}
use Rattle.isl_stmt.proofs.read.one_statement.Goals as goal

pub returns : goal.returns
returns c = one_statement
