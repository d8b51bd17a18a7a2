use Rattle.std.proofs.Common.{◌≡◌, ◌<◌, ◌≤◌, true, arith, length, to_z-of_z}
use Rattle.std.proofs.lemmas.Grind.{common_steps}
use Rattle.isl_meter.specs.Gauge.{IsWithin}
use Rattle.isl_ast.proofs.FormedLaws.{all_found, one_all}
use Rattle.isl_ast.proofs.formed.are_within.Goals as goal

pub loop-number-preserved : goal.loop-number-preserved
loop-number-preserved c =
    let i = c.loop-number.number-index in
    let x = c.number-item.result in
    let low : i < length c.args.numbers.now = omega arith in
    let passed : c.is_within.result ≡ true = grind (arith, common_steps) in
    let within : IsWithin c.args.meter.now x = grind (arith, common_steps, to_z-of_z) in
    one_all (IsWithin c.args.meter.now) c.args.numbers.now i x low (grind (arith, common_steps)) within c.loop-number.invariant

pub returns : goal.returns
returns c =
    let end : length c.args.numbers.now ≤ c.loop-number.number-index = omega arith in
    all_found (IsWithin c.args.meter.now) c.args.numbers.now c.loop-number.number-index end c.loop-number.invariant
