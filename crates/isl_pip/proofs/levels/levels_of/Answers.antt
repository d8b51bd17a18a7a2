use Rattle.std.proofs.Common.{◌≡◌, ◌∙◌, ◌+◌, ◌-◌, ◌++◌, ◌∷◌, [], ◌<◌, ◌≤◌, ◌^◌, refl, sym, ap, subst, arith, ℕ, ℤ, pos, List, length, get_or, map, take}
use Rattle.std.specs.List.{All}
use Rattle.std.proofs.lemmas.Grind.{common_steps}
use Rattle.isl_meter.specs.Gauge.{Gauge, IsCharged}
use Rattle.std.proofs.lemmas.List.Elements.{All-weaker}
use Rattle.isl_piece.specs.declared.system.System.{System}
use Rattle.isl_pip.specs.Levels.{AreCasesOn, ArePlainOver}
use Rattle.isl_pip.proofs.LevelLaws.{levels_more, levels_none}
use Rattle.isl_pip.proofs.levels.levels_of.Goals as goal

pub loop-depth-init : goal.loop-depth-init
loop-depth-init c = (levels_none c.args.meter.now c.args.front c.args.towers.now c.new-levels.result.items c.new-levels.ensures.items, refl)

pub cases_on-requires : goal.cases_on-requires
cases_on-requires c =
    let g = c.args.meter.now in
    let towers = c.args.towers.now in
    let depth = c.loop-depth.depth in
    let low : depth < c.args.width = omega arith in
    record {
      height = All-weaker (λ (levels : List (List System)). length levels ≡ c.args.width + 1) (λ levels. depth + 1 < length levels)
          (λ levels e. omega (arith, e, low)) towers c.requires.height;
      systems = subst (λ (m : Gauge). All (λ levels. ArePlainOver m (c.args.front + depth + 1) (get_or levels (depth + 1) [])) towers)
          (sym c.loop-depth.invariant.1) (c.requires.systems depth low);
    }

pub loop-depth-preserved : goal.loop-depth-preserved
loop-depth-preserved c =
    let g = c.args.meter.now in
    let towers = c.args.towers.now in
    let depth = c.loop-depth.depth in
    let told = c.in_ok-cases.ensures in
    let all : c.push.new.self.items ≡ c.loop-depth.levels.items ++ c.in_ok-cases.cases.items ∷ [] = grind (arith, common_steps) in (
      levels_more g c.args.front towers c.loop-depth.levels.items c.push.new.self.items c.in_ok-cases.cases.items depth all c.loop-depth.invariant.0
          (subst (λ (m : Gauge). AreCasesOn m (c.args.front + depth) (depth + 1) towers c.in_ok-cases.cases.items) c.loop-depth.invariant.1 told.0),
      told.1 ∙ c.loop-depth.invariant.1,
    )

pub returns : goal.returns
returns c =
    let end : c.loop-depth.depth ≡ c.args.width = omega arith in
    (c.loop-depth.invariant.0.0, c.loop-depth.invariant.0.1 ∙ end, c.loop-depth.invariant.1)
