use Rattle.std.proofs.Common.{◌≡◌, ◌++◌, ◌+◌, ◌<◌, [], ◌∷◌, refl, arith, get_or, length, take, None, Some}
use Rattle.std.proofs.lemmas.Grind.{common_steps}
use Rattle.isl_meter.proofs.CutLemmas.{IsCharged_refl, IsCharged_trans}
use Rattle.isl_tower.proofs.TowerLaws.{charged_limit, item_over}
use Rattle.isl_calls.specs.Level.{AreShadows, IsShadow}
use Rattle.isl_calls.proofs.LevelLaws.{shadows_more, shadows_none, shadows_skip}
use Rattle.isl_calls.proofs.level.Level.below.Goals.{in-Some+in_ok-push, in_default}
use Rattle.isl_calls.proofs.level.Level.below.Goals as goal

pub loop-system-init : goal.loop-system-init
loop-system-init c =
    let g = c.args.meter.now in
    let none : c.new-lower.result ≡ [] = grind arith in
    (rw none (shadows_none g c.args.width), IsCharged_refl g g refl)

pub shadow-requires : goal.shadow-requires
shadow-requires c =
    let g = c.args.meter.now in
    let h = c.loop-system.meter in
    let systems = c.args.self.now in
    let i = c.loop-system.system-index in
    let s = c.system-item.result in
    let inside : i < length systems = grind (arith, common_steps) in
    let at : s ≡ get_or systems i s = grind (arith, common_steps) in
    let item = item_over g h (c.args.width + 1) systems i s c.requires c.loop-system.invariant.1 inside at in
    record { within = item.0; plain = item.1; columns = item.2 }

pub returns : goal.returns
returns c =
    let whole : take c.loop-system.system-index c.args.self.now ≡ c.args.self.now = grind (arith, common_steps) in
    (rw whole at c.loop-system.invariant.0, c.loop-system.invariant.1)

pub loop-system-preserved : goal.loop-system-preserved
loop-system-preserved c =
    let g = c.args.meter.now in
    let h = c.loop-system.meter in
    let k = c.shadow.new.meter in
    let systems = c.args.self.now in
    let i = c.loop-system.system-index in
    let s = c.system-item.result in
    let width = c.args.width in
    let lower = c.loop-system.lower in
    let inside : i < length systems = grind (arith, common_steps) in
    let at : s ≡ get_or systems i s = grind (arith, common_steps) in
    let bits = charged_limit g h c.loop-system.invariant.1 in
    let found = c.in_ok-found.ensures in
    let shadows : AreShadows g (take (i + 1) systems) width c.match-branch-2.lower = elim c.match-branch-2.branch [
      | in-Some+in_ok-push w ↦
          let pushed : c.match-branch-2.lower ≡ lower ++ w.in-Some.found ∷ [] = grind arith in
          let is : IsShadow h s width (Some w.in-Some.found) = rw w.in-Some.is at found.0 in
          rw pushed (shadows_more g h systems i width s lower inside at c.loop-system.invariant.0 w.in-Some.found bits is)
      | in_default w ↦
          let same : c.match-branch-2.lower ≡ lower = grind arith in
          let none : c.in_ok-found.field-0 ≡ None = grind arith in
          let is : IsShadow h s width None = rw none at found.0 in
          rw same (shadows_skip g h systems i width s lower inside at c.loop-system.invariant.0 is)
    ] in
    (shadows, IsCharged_trans g h k c.loop-system.invariant.1 found.1)
