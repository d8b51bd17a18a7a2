use Rattle.std.proofs.Common.{◌∙◌}
use Rattle.isl_piece.proofs.NumberSteps.{content-zero}
use Rattle.isl_piece.proofs.numbers.content.Goals as goal

pub returns-clause-value : goal.returns-clause-value
returns-clause-value c = c.content_with.ensures.value ∙ content-zero c.args.numbers.now
