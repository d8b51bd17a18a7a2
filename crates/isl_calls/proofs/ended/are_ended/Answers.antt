use Rattle.std.proofs.Common.{◌≡◌, ◌<◌, ◌≤◌, length, arith, true, false}
use Rattle.std.proofs.lemmas.Grind.{common_steps}
use Rattle.isl_calls.proofs.EndedLaws.{all_told, ended_told, one_told}
use Rattle.isl_calls.proofs.ended.are_ended.Goals as goal

pub returns-then-not-is_ended : goal.returns-then-not-is_ended
returns-then-not-is_ended c =
    let systems = c.args.systems.now in
    let i = c.loop-system.system-index in
    let low : i < length systems = grind (arith, common_steps) in
    let no : c.is_ended.result ≡ false = grind arith in
    one_told systems i c.system-item.result c.is_ended.result low c.system-item.is no c.is_ended.ensures

pub loop-system-preserved : goal.loop-system-preserved
loop-system-preserved c =
    let systems = c.args.systems.now in
    let i = c.loop-system.system-index in
    let low : i < length systems = grind (arith, common_steps) in
    let yes : c.is_ended.result ≡ true = grind arith in
    ended_told systems i c.system-item.result c.is_ended.result low c.system-item.is yes c.is_ended.ensures c.loop-system.invariant

pub returns : goal.returns
returns c =
    let systems = c.args.systems.now in
    let i = c.loop-system.system-index in
    let end : length systems ≤ i = grind (arith, common_steps) in
    all_told systems i end c.loop-system.invariant
