use Rattle.std.proofs.Common.{◌≡◌, arith}
use Rattle.std.proofs.lemmas.Grind.{common_steps}
use Rattle.isl_piece.proofs.PlacedLaws.{equal_definitions}
use Rattle.isl_piece.proofs.definition.Definition.same.Goals as goal

pub returns-then-self-other-2 : goal.returns-then-self-other-2
returns-then-self-other-2 c =
    let constant : c.args.self.now.constant ≡ c.args.other.now.constant = grind (arith, common_steps) in
    let k : c.args.self.now.k ≡ c.args.other.now.k = grind (arith, common_steps) in
    equal_definitions c.args.self.now c.args.other.now c.eq.result constant k c.eq.ensures
