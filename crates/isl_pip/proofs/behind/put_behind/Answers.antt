use Rattle.std.proofs.Common.{◌≡◌, ◌≢◌, ◌∙◌, ◌+◌, ◌-◌, ◌++◌, ◌∷◌, [], ◌<◌, ◌≤◌, ◌^◌, ◌+ℤ◌, ◌-ℤ◌, ◌<ℤ◌, refl, sym, ap, subst, arith, ℕ, ℤ, pos, negsuc, neg_ℤ, Bool, true, false, List, drop, length, get_or, map, replicate, take, to_z, of_z, to_z-of_z}
use Rattle.std.specs.Int.{w128}
use Rattle.std.specs.List.{All}
use Rattle.std.proofs.lemmas.Grind.{common_steps}
use Rattle.isl_meter.specs.Gauge.{Gauge, IsCharged, IsWithin}
use Rattle.isl_piece.specs.System.{IsSystemWithin, free_columns}
use Rattle.isl_pip.proofs.BehindLaws.{put_all, put_more, put_none}
use Rattle.isl_pip.proofs.LevelLaws.{one_of, IsPlain}
use Rattle.isl_pip.proofs.behind.put_behind.Goals as goal

pub loop-system-init : goal.loop-system-init
loop-system-init c =
    put_none c.args.meter.now c.args.front c.args.width c.args.systems.now c.new-made.result.items c.new-made.ensures.items

pub put_one-requires : goal.put_one-requires
put_one-requires c =
    let g = c.args.meter.now in
    let systems = c.args.systems.now in
    let i = c.loop-system.system-index in
    let s = c.system-item.result in
    let inside : i < length systems = omega arith in
    let free = one_of (λ t. free_columns t ≡ c.args.front + c.args.width) systems i s inside c.system-item.is c.requires.systems.columns in
    let plain = one_of IsPlain systems i s inside c.system-item.is c.requires.systems.plain in
    let none = ap length plain in
    let fits = c.requires.fits in
    record {
      within = one_of (IsSystemWithin g) systems i s inside c.system-item.is c.requires.systems.within;
      plain = plain;
      fits = omega (arith, free, none, fits);
    }

pub loop-system-preserved : goal.loop-system-preserved
loop-system-preserved c =
    let g = c.args.meter.now in
    let systems = c.args.systems.now in
    let i = c.loop-system.system-index in
    let s = c.system-item.result in
    let inside : i < length systems = omega arith in
    let one = c.in_ok-put_one.field-0 in
    let pushed : c.push.new.self.items ≡ c.loop-system.made.items ++ one ∷ [] = grind (arith, common_steps) in
    put_more g c.args.front c.args.width systems i s c.loop-system.made.items c.push.new.self.items one inside c.system-item.is pushed
    (one_of (λ t. free_columns t ≡ c.args.front + c.args.width) systems i s inside c.system-item.is c.requires.systems.columns)
    (one_of IsPlain systems i s inside c.system-item.is c.requires.systems.plain) c.loop-system.invariant c.in_ok-put_one.ensures

pub returns : goal.returns
returns c =
    let end : length c.args.systems.now ≤ c.loop-system.system-index = omega arith in
    put_all c.args.meter.now c.args.front c.args.width c.args.systems.now c.loop-system.system-index c.loop-system.made.items end c.loop-system.invariant
