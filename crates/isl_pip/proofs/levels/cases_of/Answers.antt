use Rattle.std.proofs.Common.{◌≡◌, ◌∙◌, ◌+◌, ◌-◌, ◌++◌, ◌∷◌, [], ◌<◌, ◌≤◌, ◌^◌, refl, sym, ap, subst, arith, ℕ, ℤ, pos, List, length, get_or, map, take}
use Rattle.std.specs.List.{All}
use Rattle.std.proofs.lemmas.Grind.{common_steps}
use Rattle.isl_meter.specs.Gauge.{Gauge, IsCharged}
use Rattle.isl_piece.specs.System.{IsSystemWithin, free_columns}
use Rattle.isl_greatest.specs.Problem.{IsCaseOf}
use Rattle.isl_pip.proofs.LevelLaws.{cases_all, cases_more, cases_none, one_of, IsPlain}
use Rattle.isl_pip.proofs.levels.cases_of.Goals as goal

pub loop-system-init : goal.loop-system-init
loop-system-init c = (cases_none c.args.meter.now c.args.column c.args.systems.now c.new-cases.result.items c.new-cases.ensures.items, refl)

pub case_of-requires : goal.case_of-requires
case_of-requires c =
    let g = c.args.meter.now in
    let systems = c.args.systems.now in
    let i = c.loop-system.system-index in
    let s = c.system-item.result in
    let inside : i < length systems = omega arith in
    let free = one_of (λ t. free_columns t ≡ c.args.column + 1) systems i s inside c.system-item.is c.requires.columns in
    let plain = ap length (one_of IsPlain systems i s inside c.system-item.is c.requires.plain) in
    record {
      within = subst (λ (m : Gauge). IsSystemWithin m s) (sym c.loop-system.invariant.1)
          (one_of (IsSystemWithin g) systems i s inside c.system-item.is c.requires.within);
      columns = omega (arith, free, plain);
    }

pub loop-system-preserved : goal.loop-system-preserved
loop-system-preserved c =
    let g = c.args.meter.now in
    let systems = c.args.systems.now in
    let i = c.loop-system.system-index in
    let s = c.system-item.result in
    let inside : i < length systems = omega arith in
    let one = c.in_ok-case_of.field-0 in
    let told = c.in_ok-case_of.ensures in
    let pushed : c.push.new.self.items ≡ c.loop-system.cases.items ++ one ∷ [] = grind (arith, common_steps) in (
      cases_more g c.args.column systems i s c.loop-system.cases.items c.push.new.self.items one inside c.system-item.is pushed
          c.loop-system.invariant.0 (subst (λ (m : Gauge). IsCaseOf m c.args.column s one) c.loop-system.invariant.1 told.0)
          (one_of IsPlain systems i s inside c.system-item.is c.requires.plain),
      told.1 ∙ c.loop-system.invariant.1,
    )

pub returns : goal.returns
returns c =
    let end : length c.args.systems.now ≤ c.loop-system.system-index = omega arith in (
      cases_all c.args.meter.now c.args.column c.args.systems.now c.loop-system.system-index c.loop-system.cases.items end c.loop-system.invariant.0,
      c.loop-system.invariant.1,
    )
