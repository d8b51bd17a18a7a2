use Rattle.std.proofs.Common.{◌↔◌, Bool, sym, subst}
use Rattle.std.specs.Prelude.{IsTrue}
use Rattle.isl_piece.specs.declared.system.System.{System}
use Rattle.isl_elim.proofs.ProjectionLaws.{if_ok}
use Rattle.isl_tower.specs.Bounded.{IsBounded, IsBoundedAt}
use Rattle.isl_tower.proofs.NumberLaws.{bounded_at}
use Rattle.isl_tower.proofs.bounded.is_bounded_at.Goals as goal

pub returns-clause-exact : goal.returns-clause-exact
returns-clause-exact c =
    let system = c.args.system.now in
    let numbers = c.args.numbers.now in
    let left = c.in_ok-left.left in
    let same = c.in_ok-left.ensures.exact.0 in
    let at = bounded_at c.args.meter.now numbers system c.requires.well_formed c.requires.plain c.requires.numbers_in in
    if_ok (λ (b : Bool). IsTrue b ↔ IsBounded left 0) (λ (b : Bool). IsTrue b ↔ IsBoundedAt system numbers) c.is_bounded.result
    (λ b p. (
      (λ t. at.0 (subst (λ (s : System). IsBounded s 0) same (p.0 t))),
      (λ h. p.1 (subst (λ (s : System). IsBounded s 0) (sym same) (at.1 h))),
    )) c.is_bounded.ensures.exact
