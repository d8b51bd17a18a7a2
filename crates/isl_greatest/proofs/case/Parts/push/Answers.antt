use Rattle.std.proofs.Common.{◌≡◌, arith, rules}
use Rattle.std.proofs.lemmas.Grind.{common_steps}
use Rattle.isl_greatest.proofs.PartsLaws.{pushed_other, pushed_top}
use Rattle.isl_greatest.proofs.case.Parts.push.Goals as goal

pub returns-in_ok-push : goal.returns-in_ok-push
returns-in_ok-push c =
    pushed_top c.args.meter.now c.args.column c.args.row c.args.self.now _ c.requires.formed c.requires.within (grind (arith, common_steps))
    (grind (arith, common_steps))

pub returns-in_ok-push-2 : goal.returns-in_ok-push-2
returns-in_ok-push-2 c =
    pushed_other c.args.meter.now c.args.column c.args.row c.args.self.now _ c.requires.formed c.requires.within c.requires.kind
    (grind (arith, common_steps)) (grind (arith, common_steps))
