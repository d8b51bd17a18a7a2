use Rattle.isl_loop_law.proofs.TraceLaws.{program_tells}
use Rattle.isl_loop_law.proofs.program_tells.Goals as goal

pub returns : goal.returns
returns c = program_tells
