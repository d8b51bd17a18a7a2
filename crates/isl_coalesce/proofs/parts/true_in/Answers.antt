use Rattle.std.proofs.Common.{◌≡◌, [], ◌∷◌, arith}
use Rattle.std.proofs.lemmas.Grind.{common_steps}
use Rattle.isl_coalesce.proofs.HalfLaws.{throughout_answer}
use Rattle.isl_coalesce.proofs.parts.true_in.Goals as goal

pub returns-clause-exact : goal.returns-clause-exact
returns-clause-exact c =
    let is : c.push.new.self ≡ c.args.row.now ∷ [] = grind (arith, common_steps) in
    throughout_answer c.args.meter.now c.args.system.now c.push.new.self c.args.row.now c.hold_throughout.result c.requires.system
    c.requires.row is c.hold_throughout.ensures.exact
