use Rattle.std.proofs.Common.{◌≡◌, ◌≢◌, ◌∙◌, ◌+◌, ◌-◌, ◌++◌, ◌∷◌, [], ◌<◌, ◌≤◌, ◌^◌, ◌+ℤ◌, ◌-ℤ◌, ◌<ℤ◌, refl, sym, ap, subst, arith, ℕ, ℤ, pos, negsuc, neg_ℤ, Bool, true, false, List, drop, length, get_or, map, replicate, take, to_z, of_z, to_z-of_z}
use Rattle.std.specs.Int.{w128}
use Rattle.std.specs.List.{All}
use Rattle.std.proofs.lemmas.Grind.{common_steps}
use Rattle.isl_meter.specs.Gauge.{Gauge, IsCharged, IsWithin}
use Rattle.isl_piece.specs.System.{IsSystemWithin, free_columns}
use Rattle.isl_pip.specs.Lift.{IsAnchor, IsLiftedSystem}
use Rattle.isl_pip.proofs.LevelLaws.{one_of, IsPlain}
use Rattle.isl_pip.proofs.LiftedLaws.{lifted_all, lifted_more, lifted_none}
use Rattle.isl_pip.proofs.lift.lifted_systems.Goals as goal

pub loop-system-init : goal.loop-system-init
loop-system-init c =
    (lifted_none c.args.meter.now c.args.columns c.args.column c.args.anchor.now c.args.systems.now c.new-made.result.items c.new-made.ensures.items, refl)

pub lifted-requires : goal.lifted-requires
lifted-requires c =
    let g = c.args.meter.now in
    let systems = c.args.systems.now in
    let i = c.loop-system.system-index in
    let s = c.system-item.result in
    let inside : i < length systems = omega arith in
    let free = one_of (λ t. free_columns t ≡ c.args.columns) systems i s inside c.system-item.is c.requires.systems.columns in
    let plain = one_of IsPlain systems i s inside c.system-item.is c.requires.systems.plain in
    let none = ap length plain in
    record {
      anchor = subst (λ (m : Gauge). IsAnchor m c.args.columns c.args.column c.args.anchor.now) (sym c.loop-system.invariant.1) c.requires.anchor;
      within = subst (λ (m : Gauge). IsSystemWithin m s) (sym c.loop-system.invariant.1)
          (one_of (IsSystemWithin g) systems i s inside c.system-item.is c.requires.systems.within);
      plain = plain;
      columns = omega (arith, free, none);
      fits = c.requires.fits;
    }

pub loop-system-preserved : goal.loop-system-preserved
loop-system-preserved c =
    let g = c.args.meter.now in
    let systems = c.args.systems.now in
    let i = c.loop-system.system-index in
    let s = c.system-item.result in
    let inside : i < length systems = omega arith in
    let one = c.in_ok-lifted.field-0 in
    let told = c.in_ok-lifted.ensures in
    let pushed : c.push.new.self.items ≡ c.loop-system.made.items ++ one ∷ [] = grind (arith, common_steps) in (
      lifted_more g c.args.columns c.args.column c.args.anchor.now systems i s one c.loop-system.made.items c.push.new.self.items inside c.system-item.is
          pushed c.loop-system.invariant.0
          (subst (λ (m : Gauge). IsLiftedSystem m c.args.columns c.args.column c.args.anchor.now s one) c.loop-system.invariant.1 told.0),
      told.1 ∙ c.loop-system.invariant.1,
    )

pub returns : goal.returns
returns c =
    let end : length c.args.systems.now ≤ c.loop-system.system-index = omega arith in (
      lifted_all c.args.meter.now c.args.columns c.args.column c.args.anchor.now c.args.systems.now c.loop-system.system-index c.loop-system.made.items end
          c.loop-system.invariant.0,
      c.loop-system.invariant.1,
    )
