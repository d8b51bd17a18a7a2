use Rattle.std.proofs.Common.{◌↔◌, ℕ, Bool}
use Rattle.std.specs.Prelude.{IsTrue}
use Rattle.isl_piece.specs.declared.system.System.{System}
use Rattle.isl_elim.proofs.ProjectionLaws.{if_ok}
use Rattle.isl_tower.specs.Bounded.{IsBounded}
use Rattle.isl_tower.specs.Tower.{IsTowerOf}
use Rattle.isl_tower.proofs.bounded.is_bounded.Goals as goal

pub returns-clause-exact : goal.returns-clause-exact
returns-clause-exact c =
    let system = c.args.system.now in
    let outer = c.args.outer in
    if_ok (λ (b : Bool). (s : System) (n : ℕ) → IsTowerOf s n c.in_ok-tower.tower → IsTrue b ↔ IsBounded s n) (λ (b : Bool). IsTrue b
    ↔ IsBounded system outer)
    c.is_bounded.result (λ b p. p system outer c.in_ok-tower.ensures.tower) c.is_bounded.ensures.exact
