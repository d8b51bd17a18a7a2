use Rattle.std.proofs.Common.{◌≡◌, ◌<◌, ◌≤◌, true, arith, get_or, length, to_z-of_z}
use Rattle.std.proofs.lemmas.Grind.{common_steps}
use Rattle.isl_meter.specs.Gauge.{IsWithin}
use Rattle.isl_quotient.proofs.PinnedLaws.{all_seen, one_more}
use Rattle.isl_quotient.proofs.told.are_within.Goals as goal

pub loop-number-preserved : goal.loop-number-preserved
loop-number-preserved c =
    let numbers = c.args.numbers.now in
    let i = c.loop-number.number-index in
    let x = c.number-item.result in
    let low : i < length numbers = grind (arith, common_steps) in
    let at : x ≡ get_or numbers i x = grind (arith, common_steps) in
    let within : IsWithin c.args.meter.now x = c.is_within.ensures (grind (arith, common_steps)) in
    one_more (IsWithin c.args.meter.now) numbers i x low at within c.loop-number.invariant

pub returns : goal.returns
returns c = λ _.
    let end : length c.args.numbers.now ≤ c.loop-number.number-index = grind (arith, common_steps) in
    all_seen (IsWithin c.args.meter.now) c.args.numbers.now c.loop-number.number-index end c.loop-number.invariant
