use Rattle.isl_redundant.proofs.KeptLaws.{reduced_first}
use Rattle.isl_redundant.proofs.reduction.without_redundant.Goals as goal

pub returns-then-not-are_many : goal.returns-then-not-are_many
returns-then-not-are_many c = reduced_first c.args.columns c.args.rows c.requires.well_formed

pub returns-else-branch : goal.returns-else-branch
returns-else-branch c = reduced_first c.args.columns c.args.rows c.requires.well_formed

pub returns-in-GivenUp : goal.returns-in-GivenUp
returns-in-GivenUp c = reduced_first c.args.columns c.args.rows c.requires.well_formed
