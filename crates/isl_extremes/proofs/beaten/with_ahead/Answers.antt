use Rattle.std.proofs.Common.{◌∙◌, sym}
use Rattle.isl_extremes.proofs.BeatenLaws.{ahead_made}
use Rattle.isl_extremes.proofs.beaten.with_ahead.Goals as goal

pub meet-requires : goal.meet-requires
meet-requires c = (c.in_ok-moved.ensures c.args.meter.now c.requires.within).free ∙ sym c.in_ok-case.ensures.free

pub returns : goal.returns
returns c =
    ahead_made c.args.meter.now c.args.order c.args.at c.args.system.now c.limit-limit.ensures.bits_low c.requires.within
    c.in_ok-moved.moved
    c.in_ok-case.case (c.in_ok-moved.ensures c.args.meter.now c.requires.within) c.in_ok-case.ensures c.meet.result c.meet.ensures.points
    c.meet.ensures.within c.meet.ensures.free c.meet.ensures.same
