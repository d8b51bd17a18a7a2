use Rattle.std.proofs.Common.{◌≤◌, length}
use Rattle.isl_coalesce.proofs.JointLaws.{either_known_answer, either_plain_answer}
use Rattle.isl_coalesce.proofs.joint.is_of_either.Goals as goal

pub returns-in-Nothing-clause-exact : goal.returns-in-Nothing-clause-exact
returns-in-Nothing-clause-exact c =
    either_plain_answer c.args.meter.now c.args.known.now c.args.first.now c.args.second.now c.args.joint.now c.is_covered.result
    c.in-Nothing.is c.requires.joint (c.requires.live c.in-Nothing.is) c.is_covered.ensures.covered c.is_covered.ensures.only

pub returns-in_ok-parts-in-Where-clause-exact : goal.returns-in_ok-parts-in-Where-clause-exact
returns-in_ok-parts-in-Where-clause-exact c =
    let region = c.in-Where.region in
    let fits : length region.params ≤ c.args.joint.now.columns =
    rw c.in-Where.is at c.requires.known.fits in
    let pairs = rw (c.len-names.ensures.len, c.as_slice.ensures.value) at c.in_ok-parts-in-Where.ensures.pairs in
    let have = rw c.as_slice-in-Where.ensures.value at c.have_points_in.ensures.exact in
    either_known_answer c.args.meter.now c.args.known.now region c.args.first.now c.args.second.now c.args.joint.now
    c.in_ok-parts-in-Where.parts.items c.have_points_in.result c.in-Where.is c.requires.joint fits c.requires.columns c.requires.first pairs
    have
