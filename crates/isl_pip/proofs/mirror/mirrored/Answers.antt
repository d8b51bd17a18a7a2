use Rattle.std.proofs.Common.{◌≡◌, ◌≢◌, ◌∙◌, ◌+◌, ◌-◌, ◌++◌, ◌∷◌, [], ◌<◌, ◌≤◌, ◌^◌, ◌+ℤ◌, ◌-ℤ◌, ◌<ℤ◌, refl, sym, ap, subst, arith, ℕ, ℤ, pos, negsuc, neg_ℤ, Bool, true, false, List, drop, length, get_or, map, replicate, take, to_z, of_z, to_z-of_z}
use Rattle.std.specs.Int.{w128}
use Rattle.std.specs.List.{All}
use Rattle.std.proofs.lemmas.Grind.{common_steps}
use Rattle.isl_meter.specs.Gauge.{Gauge, IsCharged, IsWithin}
use Rattle.std.proofs.lemmas.List.Elements.{All-nil}
use Rattle.isl_piece.specs.declared.row.Row.{Row}
use Rattle.isl_piece.specs.Row.{IsRowWithin}
use Rattle.isl_pip_law.specs.Mirror.{mirrored_row}
use Rattle.isl_pip.proofs.LevelLaws.{one_of}
use Rattle.isl_pip.proofs.MirrorSteps.{rows_more, system_mirrored}
use Rattle.isl_pip.proofs.mirror.mirrored.Goals as goal

pub loop-row-init : goal.loop-row-init
loop-row-init c =
    (c.new-rows.ensures, subst (All (IsRowWithin c.args.meter.now)) (sym c.new-rows.ensures) (All-nil (IsRowWithin c.args.meter.now)))

pub mirrored_row-requires : goal.mirrored_row-requires
mirrored_row-requires c =
    let own = c.as_slice-own.result.now in
    let inside : c.loop-row.row-index < length own = omega arith in
    let all = subst (All (IsRowWithin c.args.meter.now)) (sym c.as_slice-own.ensures) c.requires.within.within in
    one_of (IsRowWithin c.args.meter.now) own c.loop-row.row-index c.row-item.result inside c.row-item.is all

pub loop-row-preserved : goal.loop-row-preserved
loop-row-preserved c =
    let own = c.as_slice-own.result.now in
    let i = c.loop-row.row-index in
    let inside : i < length own = omega arith in
    let one = c.in_ok-mirrored_row.field-0 in
    let pushed : c.push.new.self ≡ c.loop-row.rows ++ one ∷ [] = grind (arith, common_steps) in
    rows_more c.args.meter.now c.args.front own i c.row-item.result one c.loop-row.rows c.push.new.self inside c.row-item.is
    c.in_ok-mirrored_row.ensures.exact c.in_ok-mirrored_row.ensures.within pushed c.loop-row.invariant

pub returns : goal.returns
returns c =
    let s = c.args.system.now in
    let end : length s.rows ≤ c.loop-row.row-index = grind (arith, common_steps) in
    let inv = subst (λ (rs : List Row). (c.loop-row.rows ≡ map (mirrored_row c.args.front) (take c.loop-row.row-index rs)) × All (IsRowWithin c.args.meter.now) c.loop-row.rows)
    c.as_slice-own.ensures c.loop-row.invariant in
    system_mirrored c.args.meter.now c.args.front s c.from_rows.result c.loop-row.rows c.loop-row.row-index end c.requires.within c.requires.plain inv
    c.from_rows.ensures
