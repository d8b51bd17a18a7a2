use Rattle.std.proofs.Common.{◌≡◌, ◌≢◌, ◌∙◌, ◌+◌, ◌-◌, ◌++◌, ◌∷◌, [], ◌<◌, ◌≤◌, ◌^◌, ◌+ℤ◌, ◌-ℤ◌, ◌<ℤ◌, refl, sym, ap, subst, arith, ℕ, ℤ, pos, negsuc, neg_ℤ, Bool, true, false, List, drop, length, get_or, map, replicate, take, to_z, of_z, to_z-of_z}
use Rattle.std.specs.Int.{w128}
use Rattle.std.specs.List.{All}
use Rattle.std.proofs.lemmas.Grind.{common_steps}
use Rattle.isl_meter.specs.Gauge.{Gauge, IsCharged, IsWithin}
use Rattle.isl_meter.proofs.LimitLemmas.{IsWithin-small, IsWithin-zero}
use Rattle.isl_piece.specs.System.{free_columns}
use Rattle.isl_pip.proofs.MirrorSteps.{one_more_made}
use Rattle.isl_pip.proofs.mirror.with_zero.Goals as goal

pub returns : goal.returns
returns c =
    let g = c.args.meter.now in
    let s = c.args.system.now in
    let told = c.in_ok-made.ensures g c.requires.within in
    let coefs : c.push.new.self ≡ replicate s.columns (pos 0) ++ pos 1 ∷ [] = grind (arith, common_steps) in
    let row = c.new.result in
    one_more_made g s c.in_ok-made.made _ c.push.new.self row c.requires.plain told (IsWithin-zero g)
    (IsWithin-small g (pos 1) c.limit-limit.ensures.bits_low (omega arith)) coefs (grind (arith, common_steps)) (grind (arith, common_steps))
