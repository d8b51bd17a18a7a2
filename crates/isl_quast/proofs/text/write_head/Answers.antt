use Rattle.std.proofs.Common.{arith}
use Rattle.std.proofs.lemmas.Grind.{common_steps}
use Rattle.isl_space.specs.Space.{space_form_of}
use Rattle.isl_quast.proofs.NameLaws.{names_enough}
use Rattle.isl_quast.proofs.text.write_head.Goals as goal

pub write_tuples-requires-clause-enough : goal.write_tuples-requires-clause-enough
write_tuples-requires-clause-enough c =
    names_enough c.args.params.now _ (space_form_of c.args.space.now) _ (grind (arith, common_steps)) c.len-declared.ensures.len
