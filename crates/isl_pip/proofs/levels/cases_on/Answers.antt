use Rattle.std.proofs.Common.{◌≡◌, ◌∙◌, ◌+◌, ◌-◌, ◌++◌, ◌∷◌, [], ◌<◌, ◌≤◌, ◌^◌, refl, sym, ap, subst, arith, ℕ, ℤ, pos, List, length, get_or, map, take}
use Rattle.std.specs.List.{All}
use Rattle.std.proofs.lemmas.Grind.{common_steps}
use Rattle.isl_meter.specs.Gauge.{Gauge, IsCharged}
use Rattle.isl_piece.specs.declared.system.System.{System}
use Rattle.isl_pip.specs.Levels.{AreCasesOf, ArePlainOver}
use Rattle.isl_pip.proofs.LevelLaws.{on_all, on_more, on_none, one_of}
use Rattle.isl_pip.proofs.levels.cases_on.Goals as goal

pub loop-tower-init : goal.loop-tower-init
loop-tower-init c =
    (on_none c.args.meter.now c.args.column c.args.height c.args.towers.now c.new-cases.result.items c.new-cases.ensures.items, refl)

pub level-requires : goal.level-requires
level-requires c =
    let towers = c.args.towers.now in
    let inside : c.loop-tower.tower-index < length towers = omega arith in
    one_of (λ levels. c.args.height < length levels) towers c.loop-tower.tower-index c.tower-item.result inside c.tower-item.is c.requires.height

pub cases_of-requires : goal.cases_of-requires
cases_of-requires c =
    let g = c.args.meter.now in
    let towers = c.args.towers.now in
    let inside : c.loop-tower.tower-index < length towers = omega arith in
    let own = one_of (λ levels. ArePlainOver g (c.args.column + 1) (get_or levels c.args.height [])) towers c.loop-tower.tower-index c.tower-item.result
    inside c.tower-item.is c.requires.systems in
    subst (λ (m : Gauge). ArePlainOver m (c.args.column + 1) c.level.result.now) (sym c.loop-tower.invariant.1)
    (subst (ArePlainOver g (c.args.column + 1)) (sym c.level.ensures) own)

pub loop-tower-preserved : goal.loop-tower-preserved
loop-tower-preserved c =
    let g = c.args.meter.now in
    let towers = c.args.towers.now in
    let i = c.loop-tower.tower-index in
    let inside : i < length towers = omega arith in
    let more = c.in_ok-more.more.items in
    let told = c.in_ok-more.ensures in
    let all : c.append.new.self.items ≡ c.loop-tower.cases.items ++ more = grind (arith, common_steps) in (
      on_more g c.args.column c.args.height towers i c.tower-item.result c.level.result.now c.loop-tower.cases.items more c.append.new.self.items inside
          c.tower-item.is c.level.ensures all c.loop-tower.invariant.0
          (subst (λ (m : Gauge). AreCasesOf m c.args.column c.level.result.now more) c.loop-tower.invariant.1 told.0),
      told.1 ∙ c.loop-tower.invariant.1,
    )

pub returns : goal.returns
returns c =
    let end : length c.args.towers.now ≤ c.loop-tower.tower-index = omega arith in (
      on_all c.args.meter.now c.args.column c.args.height c.args.towers.now c.loop-tower.tower-index c.loop-tower.cases.items end
          c.loop-tower.invariant.0,
      c.loop-tower.invariant.1,
    )
