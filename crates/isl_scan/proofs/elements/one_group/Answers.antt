use Rattle.std.proofs.Common.{◌≡◌, ◌∷◌, [], arith}
use Rattle.std.proofs.lemmas.Grind.{common_steps}
use Rattle.isl_scan.proofs.GatheredLaws.{gathered_one}
use Rattle.isl_scan.proofs.elements.one_group.Goals as goal

pub returns-clause-exact : goal.returns-clause-exact
returns-clause-exact c = λ numbers listable fibre.
    let one : c.push.new.self.items ≡ c.in_ok-group.group ∷ [] = grind (arith, common_steps) in
    gathered_one numbers c.args.piece.now c.in_ok-group.group c.push.new.self.items (c.in_ok-group.ensures.exact numbers listable fibre) one
