use Rattle.std.proofs.Common.{arith}
use Rattle.isl_remainder.proofs.OverLaws.{shortened_made}
use Rattle.isl_remainder.proofs.over.shortened.Goals as goal

pub without_last-requires : goal.without_last-requires
without_last-requires c = record { within = c.requires.within; columns = c.requires.free }

pub returns-clause-made : goal.returns-clause-made
returns-clause-made c =
    let e = c.in_ok-parts.ensures in
    shortened_made c.args.meter.now c.args.columns c.args.system.now c.in_ok-parts.parts.items c.pop.result c.in_ok-parts.parts.len
    (omega arith) (omega arith) (λ d. c.pop.ensures.value d (omega arith)) e.points e.columns e.within e.definitions
