use Rattle.std.proofs.Common.{◌≡◌, ◌<◌, ◌++◌, ◌∷◌, [], length, arith, rules}
use Rattle.std.proofs.lemmas.Grind.{common_steps}
use Rattle.isl_refute.proofs.WithinLaws.{measured_cut, numbers_before}
use Rattle.isl_refute.proofs.added.all_measured.Goals as goal

pub loop-i-preserved : goal.loop-i-preserved
loop-i-preserved c =
    let low : c.loop-i.i < length c.args.numbers.now = omega arith in
    let more : c.push.new.self ≡ c.loop-i.coefs ++ c.in_ok-next.next ∷ [] = grind (arith, common_steps) in
    numbers_before c.args.meter.now c.loop-i.meter c.measured_at.new.meter c.args.numbers.now c.loop-i.i c.loop-i.coefs c.in_ok-next.next
    c.push.new.self low c.loop-i.invariant.0 c.loop-i.invariant.1 c.loop-i.invariant.2 c.in_ok-next.ensures.0 c.in_ok-next.ensures.1
    c.in_ok-next.ensures.2 more

pub returns-in_err-next : goal.returns-in_err-next
returns-in_err-next c =
    let low : c.loop-i.i < length c.args.numbers.now = omega arith in
    let found = measured_cut c.args.meter.now c.loop-i.meter c.measured_at.new.meter c.args.numbers.now c.loop-i.i low c.loop-i.invariant.2
    c.in_err-next.ensures.0 c.in_err-next.ensures.1 in
    search (rules, found)
