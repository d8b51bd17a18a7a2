use Rattle.std.proofs.Common.{arith, to_z-of_z}
use Rattle.std.proofs.lemmas.Grind.{common_steps}
use Rattle.isl_math.proofs.Ring.{linear}
use Rattle.isl_elim.proofs.narrow.remainders_between.Goals as goal

pub returns : goal.returns
returns c = record {
  lower_kind = grind (arith, common_steps);
  upper_kind = grind (arith, common_steps);
  opposite = c.are_opposite.ensures.0 (grind (arith, common_steps));
  steep = grind (arith, linear, common_steps, to_z-of_z);
  apart = grind (arith, linear, common_steps, to_z-of_z);
  left_out = grind (arith, linear, common_steps, to_z-of_z);
}
