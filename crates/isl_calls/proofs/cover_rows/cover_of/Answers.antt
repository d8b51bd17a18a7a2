use Rattle.std.proofs.Common.{◌≡◌, ◌<◌, ◌≤◌, ◌++◌, ◌∷◌, [], arith, length}
use Rattle.std.proofs.lemmas.Grind.{common_steps}
use Rattle.isl_calls.specs.CoverRows.{rows_of}
use Rattle.isl_calls.proofs.CoverLaws.{mapped_all, mapped_more}
use Rattle.isl_calls.proofs.cover_rows.cover_of.Goals as goal

pub loop-system-preserved : goal.loop-system-preserved
loop-system-preserved c =
    let systems = c.args.systems.now in
    let i = c.loop-system.system-index in
    let low : i < length systems = grind (arith, common_steps) in
    let pushed : c.push.new.self ≡ c.loop-system.cover ++ c.in_ok-copy.field-0 ∷ [] = grind arith in
    mapped_more rows_of systems i c.system-item.result c.loop-system.cover c.push.new.self c.in_ok-copy.field-0 low c.system-item.is
    c.loop-system.invariant c.in_ok-copy.ensures pushed

pub returns : goal.returns
returns c =
    let end : length c.args.systems.now ≤ c.loop-system.system-index = grind (arith, common_steps) in
    mapped_all rows_of c.args.systems.now c.loop-system.system-index c.loop-system.cover end c.loop-system.invariant
