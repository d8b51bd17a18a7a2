use Rattle.std.proofs.Common.{◌≡◌, ◌≢◌, ◌∙◌, ◌+◌, ◌-◌, ◌++◌, ◌∷◌, [], ◌<◌, ◌≤◌, ◌^◌, ◌+ℤ◌, ◌-ℤ◌, ◌<ℤ◌, refl, sym, ap, subst, arith, ℕ, ℤ, pos, negsuc, neg_ℤ, Bool, true, false, List, drop, length, get_or, map, replicate, take, to_z, of_z, to_z-of_z}
use Rattle.std.specs.Int.{w128}
use Rattle.std.specs.List.{All}
use Rattle.std.proofs.lemmas.Grind.{common_steps}
use Rattle.isl_meter.specs.Gauge.{Gauge, IsCharged, IsWithin}
use Rattle.isl_piece.specs.declared.system.System.{System}
use Rattle.isl_pip_law.specs.Mirror.{IsMirror}
use Rattle.isl_pip.specs.Behind.{IsPutBehind}
use Rattle.isl_pip.proofs.BehindLaws.{behind_some, behind_zero}
use Rattle.isl_pip.proofs.behind.put_one.Goals as goal

pub returns-then-width-eq0 : goal.returns-then-width-eq0
returns-then-width-eq0 c =
    let none : c.args.width ≡ 0 = grind (arith, common_steps) in
    behind_zero c.args.meter.now c.args.front c.args.width c.args.system.now c.with_zero.result none c.with_zero.ensures

pub returns : goal.returns
returns c =
    let some : c.args.width ≢ 0 = grind (arith, common_steps) in
    behind_some c.args.meter.now c.args.front c.args.width c.args.system.now c.mirrored.result some c.mirrored.ensures
