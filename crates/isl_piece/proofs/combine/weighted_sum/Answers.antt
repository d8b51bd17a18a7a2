use Rattle.std.proofs.Common.{arith}
use Rattle.std.proofs.lemmas.Grind.{common_steps}
use Rattle.std.proofs.lemmas.List.Elements.{All-push}
use Rattle.isl_piece.proofs.CombineLaws.{weighted_steps}
use Rattle.isl_piece.proofs.combine.weighted_sum.Goals as goal

pub loop-i-preserved : goal.loop-i-preserved
loop-i-preserved c = (grind (arith, common_steps, weighted_steps), grind (arith, common_steps, All-push), grind (arith, common_steps))
