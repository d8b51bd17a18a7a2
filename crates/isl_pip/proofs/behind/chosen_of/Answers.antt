use Rattle.std.proofs.Common.{◌≡◌, ◌≢◌, refl, arith}
use Rattle.std.proofs.lemmas.Grind.{common_steps}
use Rattle.isl_pip.proofs.TreeMade.{chosen_none, chosen_some}
use Rattle.isl_pip.proofs.behind.chosen_of.Goals as goal

pub returns-then-width-eq0 : goal.returns-then-width-eq0
returns-then-width-eq0 c =
    let none : c.args.width ≡ 0 = grind (arith, common_steps) in
    chosen_none c.args.width 1 none refl

pub returns : goal.returns
returns c =
    let some : c.args.width ≢ 0 = grind (arith, common_steps) in
    chosen_some c.args.width c.args.width some refl
