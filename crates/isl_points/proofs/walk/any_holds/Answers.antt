use Rattle.std.proofs.Common.{◌≡◌, ◌<◌, [], arith, false, length, subst, take}
use Rattle.std.specs.List.{All}
use Rattle.std.proofs.lemmas.Grind.{common_steps}
use Rattle.isl_piece.specs.declared.system.System.{System}
use Rattle.isl_piece.specs.System.{HoldsSystem}
use Rattle.isl_tower.proofs.ClosedLaws.{false_is_none, not_true}
use Rattle.isl_elim.specs.Elimination.{HoldsAtAny}
use Rattle.isl_points.proofs.ListLaws.{all_more}
use Rattle.isl_points.proofs.WalkLaws.{none_holds}
use Rattle.isl_points.proofs.walk.any_holds.Goals as goal

pub loop-system-preserved : goal.loop-system-preserved
loop-system-preserved c =
    let P : System → Type 0 = λ s. ¬ HoldsSystem s [] in
    let systems = c.args.systems.now in
    let i = c.loop-system.system-index in
    let inside : i < length systems = grind (arith, common_steps) in
    let no : c.in_ok-holds_at.field-0 ≡ false = grind arith in
    let none : P c.system-item.result = λ h. not_true c.in_ok-holds_at.field-0 no (c.in_ok-holds_at.ensures.0.1 h) in (
      (all_more P systems i c.system-item.result inside c.system-item.is).1 (c.loop-system.invariant.0, none),
      grind arith,
    )

pub returns : goal.returns
returns c =
    let P : System → Type 0 = λ s. ¬ HoldsSystem s [] in
    let systems = c.args.systems.now in
    let whole : take c.loop-system.system-index systems ≡ systems = grind (arith, common_steps) in
    let none = none_holds systems [] (subst (All P) whole c.loop-system.invariant.0) in (
      ((λ t. false_is_none (HoldsAtAny systems []) t), (λ h. absurd (none h))),
      c.loop-system.invariant.1,
    )
