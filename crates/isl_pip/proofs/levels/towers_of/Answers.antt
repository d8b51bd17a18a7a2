use Rattle.std.proofs.Common.{◌≡◌, ◌∙◌, ◌+◌, ◌-◌, ◌++◌, ◌∷◌, [], ◌<◌, ◌≤◌, ◌^◌, refl, sym, ap, subst, arith, ℕ, ℤ, pos, List, length, get_or, map, take}
use Rattle.std.specs.List.{All}
use Rattle.std.proofs.lemmas.Grind.{common_steps}
use Rattle.isl_meter.specs.Gauge.{Gauge, IsCharged}
use Rattle.isl_meter.proofs.CutLemmas.{IsCharged_refl, IsCharged_trans}
use Rattle.isl_piece.specs.System.{IsSystemWithin, free_columns}
use Rattle.isl_piece.proofs.FormedLaws.{system_within_kept}
use Rattle.isl_greatest.proofs.KeptLaws.{bits_of}
use Rattle.isl_pip.proofs.LevelLaws.{levels_kept, one_of, towers_all, towers_more, towers_none, IsPlain}
use Rattle.isl_pip.proofs.levels.towers_of.Goals as goal

pub loop-system-init : goal.loop-system-init
loop-system-init c = (
  towers_none c.args.meter.now c.args.front c.args.systems.now c.new-towers.result.items c.new-towers.ensures.items,
  IsCharged_refl c.args.meter.now c.args.meter.now refl,
)

pub of-requires : goal.of-requires
of-requires c =
    let g = c.args.meter.now in
    let h = c.loop-system.meter in
    let systems = c.args.systems.now in
    let i = c.loop-system.system-index in
    let s = c.system-item.result in
    let inside : i < length systems = omega arith in
    let free = one_of (λ t. free_columns t ≡ c.args.front + c.args.width) systems i s inside c.system-item.is c.requires.columns in
    record {
      well_formed = system_within_kept h g s (sym (bits_of g h c.loop-system.invariant.1))
          (one_of (IsSystemWithin g) systems i s inside c.system-item.is c.requires.within);
      plain = one_of IsPlain systems i s inside c.system-item.is c.requires.plain;
      outer_in = omega (arith, free);
    }

pub loop-system-preserved : goal.loop-system-preserved
loop-system-preserved c =
    let g = c.args.meter.now in
    let h = c.loop-system.meter in
    let systems = c.args.systems.now in
    let i = c.loop-system.system-index in
    let s = c.system-item.result in
    let inside : i < length systems = omega arith in
    let tower = c.in_ok-of.field-0 in
    let told = c.in_ok-of.ensures in
    let pushed : c.push.new.self.items ≡ c.loop-system.towers.items ++ tower ∷ [] = grind (arith, common_steps) in (
      towers_more g c.args.front systems i s c.loop-system.towers.items c.push.new.self.items tower inside c.system-item.is pushed
          c.loop-system.invariant.0 told.tower (levels_kept g h (bits_of g h c.loop-system.invariant.1) tower told.within) told.plain,
      IsCharged_trans g h c.of.new.meter c.loop-system.invariant.1 told.meter,
    )

pub returns-clause-towers : goal.returns-clause-towers
returns-clause-towers c =
    let end : length c.args.systems.now ≤ c.loop-system.system-index = omega arith in
    towers_all c.args.meter.now c.args.front c.args.systems.now c.loop-system.system-index c.loop-system.towers.items end c.loop-system.invariant.0
