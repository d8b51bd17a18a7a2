use Rattle.isl_loop_law.proofs.TraceLaws.{one_trace}
use Rattle.isl_loop_law.proofs.one_trace.Goals as goal

pub returns : goal.returns
returns c = one_trace
