use Rattle.std.proofs.Common.{◌≡◌, ◌++◌, ◌+◌, ◌<◌, [], ◌∷◌, refl, arith, get_or, length, take}
use Rattle.std.specs.List.{All}
use Rattle.std.proofs.lemmas.Grind.{common_steps}
use Rattle.isl_meter.specs.Gauge.{IsCharged}
use Rattle.isl_meter.proofs.CutLemmas.{IsCharged_refl, IsCharged_trans}
use Rattle.isl_tower.proofs.TowerLaws.{below_none, below_more, charged_limit, item_over, plain_below}
use Rattle.isl_tower.proofs.level.Level.below.Goals as goal

pub loop-system-init : goal.loop-system-init
loop-system-init c =
    let g = c.args.meter.now in
    let none : c.new-lower.result ≡ [] = grind arith in
    (rw none (below_none g c.args.width), IsCharged_refl g g refl)

pub eliminate-requires : goal.eliminate-requires
eliminate-requires c =
    let g = c.args.meter.now in
    let h = c.loop-system.meter in
    let systems = c.args.self.now in
    let i = c.loop-system.system-index in
    let s = c.system-item.result in
    let inside : i < length systems = grind (arith, common_steps) in
    let at : s ≡ get_or systems i s = grind (arith, common_steps) in
    let item = item_over g h (c.args.width + 1) systems i s c.requires.over c.loop-system.invariant.1 inside at in
    record { well_formed = item.0; col_in = (let f = item.2 in omega (arith, f)) }

pub loop-system-preserved : goal.loop-system-preserved
loop-system-preserved c =
    let g = c.args.meter.now in
    let h = c.loop-system.meter in
    let k = c.eliminate.new.meter in
    let systems = c.args.self.now in
    let i = c.loop-system.system-index in
    let s = c.system-item.result in
    let new = c.in_ok-projected.projected.items in
    let inside : i < length systems = grind (arith, common_steps) in
    let at : s ≡ get_or systems i s = grind (arith, common_steps) in
    let item = item_over g h (c.args.width + 1) systems i s c.requires.over c.loop-system.invariant.1 inside at in
    let joined : c.append.new.self ≡ c.loop-system.lower ++ new = grind arith in
    let charged : IsCharged h k = grind arith in
    let e = c.in_ok-projected.ensures in
    let plain : All (λ t. t.definitions ≡ []) new = plain_below s (c.args.width ∷ []) new item.1 e.definitions in (
      rw joined (below_more g h systems i c.args.width s c.loop-system.lower new inside at c.loop-system.invariant.0
          (charged_limit g h c.loop-system.invariant.1) item.2 e.projection e.within plain e.normal),
      IsCharged_trans g h k c.loop-system.invariant.1 charged,
    )

pub returns : goal.returns
returns c =
    let whole : take c.loop-system.system-index c.args.self.now ≡ c.args.self.now = grind (arith, common_steps) in
    record { exact = (rw whole at c.loop-system.invariant.0, c.loop-system.invariant.1) }
