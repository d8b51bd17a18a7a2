use Rattle.std.proofs.Common.{◌≤◌, arith, length, refl}
use Rattle.isl_cert.proofs.SoughtLaws.{all_sought, none_sought}
use Rattle.isl_cert.proofs.comparing.is_at_most_once.Goals as goal

pub loop-number-init : goal.loop-number-init
loop-number-init c = none_sought c.args.sought c.args.numbers.now

pub returns : goal.returns
returns c =
    let end : length c.args.numbers.now ≤ c.loop-number.number-index = omega arith in
    let once = all_sought c.args.sought c.args.numbers.now c.loop-number.number-index c.loop-number.seen end c.loop-number.invariant in
    ((λ t. once), (λ all. refl))
