use Rattle.std.proofs.Common.{◌≡◌, ◌+◌, arith}
use Rattle.isl_assumed.proofs.PairLaws.{pair_made}
use Rattle.isl_assumed.proofs.pairing.pair.Goals as goal

pub returns-clause-pair : goal.returns-clause-pair
returns-clause-pair c =
    let g = c.args.meter.now in
    let s = c.args.system.now in
    let other = c.args.other.now in
    let wide = c.in_ok-wide.wide in
    let spread = c.in_ok-wide.ensures g c.requires.other in
    let total = spread.free in
    let free : c.args.names + (c.args.more + 0) ≡ c.args.names + c.args.more = omega arith in
    pair_made g c.args.names c.args.more s other wide c.in_ok-meet.field-0 c.requires.columns spread
    (λ point long. c.in_ok-meet.ensures.points g point c.requires.system spread.within long)
    (c.in_ok-meet.ensures.within g c.requires.system spread.within)
    (c.in_ok-meet.ensures.free g c.requires.system spread.within)
    c.in_ok-meet.ensures.same
