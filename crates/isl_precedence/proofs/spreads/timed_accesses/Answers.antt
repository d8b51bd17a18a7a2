use Rattle.std.proofs.Common.{◌≡◌, []}
use Rattle.isl_precedence.specs.Spreads.{sink_blocks, source_blocks, start_blocks, stop_blocks, HoldBoth}
use Rattle.isl_precedence.proofs.SpreadLaws.{meet_made}
use Rattle.isl_precedence.proofs.spreads.timed_accesses.Goals as goal

pub returns : goal.returns
returns c g first second third fourth =
    let widths = c.args.widths.now in
    let m = c.args.accesses.now.source.now.system in
    let n = c.args.accesses.now.sink.now.system in
    let t = c.args.start.now.system in
    let u = c.args.stop.now.system in
    let own = rw (c.system-source.ensures, c.system-sink.ensures) at c.in_ok-own.ensures in
    let times = rw (c.system.ensures, c.system-2.ensures) at c.in_ok-times.ensures in
    let one = own g first second in
    let two = times g third fourth in
    meet_made g widths ((m.definitions ≡ []) × (n.definitions ≡ [])) ((t.definitions ≡ []) × (u.definitions ≡ []))
    (HoldBoth m source_blocks n sink_blocks) (HoldBoth t start_blocks u stop_blocks) c.in_ok-own.own c.in_ok-times.times one two
    c.meet.result
    (λ point l. c.meet.ensures.points g point one.within two.within l) (c.meet.ensures.within g one.within two.within)
    (c.meet.ensures.free g one.within two.within) c.meet.ensures.same
