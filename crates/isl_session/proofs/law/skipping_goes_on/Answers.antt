use Rattle.isl_session.proofs.WholeLemmas.{complete_on, skipped_wrong}
use Rattle.isl_session.proofs.law.skipping_goes_on.Goals as goal

pub returns-clause-whole : goal.returns-clause-whole
returns-clause-whole c = complete_on

pub returns-clause-wrong : goal.returns-clause-wrong
returns-clause-wrong c = skipped_wrong
