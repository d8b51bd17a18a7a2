use Rattle.isl_session.proofs.RunLemmas.{run_if_none}
use Rattle.isl_session.proofs.law.answered_is_a_run.Goals as goal

pub returns : goal.returns
returns c = record { run = run_if_none }
