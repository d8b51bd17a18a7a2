use Rattle.std.proofs.Common.{◌≡◌, ◌≢◌, refl, true, arith, pos}
use Rattle.std.proofs.lemmas.Grind.{common_steps}
use Rattle.isl_meter.specs.Gauge.{IsWithin}
use Rattle.isl_piece.specs.Row.{IsRowWithin}
use Rattle.isl_frame.proofs.SumLaws.{common_positive, sum_same, sum_with}
use Rattle.isl_frame.proofs.sum.Sum.with.Goals as goal

pub returns-then-is_zero : goal.returns-then-is_zero
returns-then-is_zero c =
    let none : c.is_zero.result ≡ true = grind (arith, common_steps) in
    ((c.requires.sum, sum_same c.args.self c.args.coef c.args.entry.now (c.is_zero.ensures.0 none)), refl)

pub floor_div-by-requires-clause-divisor : goal.floor_div-by-requires-clause-divisor
floor_div-by-requires-clause-divisor c =
    common_positive c.args.meter.now c.args.self c.requires.sum c.args.coef c.args.entry.now c.requires.divides.0 c.requires.divides.1
    c.requires.width c.gcd-common.result (rw c.modulus.ensures at c.gcd-common.ensures.value)

pub returns : goal.returns
returns c =
    let some : c.args.coef ≢ pos 0 = grind (arith, common_steps) in
    let scale = c.in_ok-scale.ensures.0 in
    let times = c.in_ok-times.ensures.0 in
    let row = c.in_ok-row.ensures.exact.0.0 in
    let by = c.floor_div-by.ensures.value in
    let quotient = c.floor_div.ensures.value in
    let modulus = c.modulus-2.ensures in
    let meter : c.combination.new.meter ≡ c.args.meter.now = grind (arith, common_steps) in
    let within : IsRowWithin c.args.meter.now c.in_ok-row.row = grind (arith, common_steps) in
    let small : IsWithin c.args.meter.now c.in_ok-scale.scale = grind (arith, common_steps) in (
      sum_with c.args.meter.now c.args.self c.requires.sum c.args.coef c.args.entry.now c.requires.divides.0 c.requires.divides.1
          c.requires.width c.gcd-common.result (rw c.modulus.ensures at c.gcd-common.ensures.value) some
          (record { row = c.in_ok-row.row; scale = c.in_ok-scale.scale }) (cc) (cc) within small,
      meter,
    )
