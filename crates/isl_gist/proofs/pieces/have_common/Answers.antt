use Rattle.std.proofs.Common.{refl}
use Rattle.isl_gist.proofs.IdleLaws.{both_is}
use Rattle.isl_gist.proofs.MeetingLaws.{common_exactly}
use Rattle.isl_gist.proofs.pieces.have_common.Goals as goal

pub returns-clause-exact : goal.returns-clause-exact
returns-clause-exact c =
    let g = c.args.meter.now in
    let system = c.args.system.now in
    let context = c.args.context.now in
    let meeting = c.in_ok-both.both in
    let is = both_is g system.columns system context meeting c.requires.system c.requires.context c.in_ok-both.ensures.same in
    common_exactly g system.columns system.rows context c.requires.context meeting c.in_ok-empty.empty _ is refl c.in_ok-empty.ensures.exact
