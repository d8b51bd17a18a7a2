use Rattle.isl_frame.proofs.FrameLaws.{own_more}
use Rattle.isl_frame.proofs.variable.own_frame.Goals as goal

pub loop-i-preserved : goal.loop-i-preserved
loop-i-preserved c =
    let so_far = c.loop-i.invariant in
    let more = c.in_ok-frame.ensures in (
      own_more c.loop-i.i c.loop-i.frame c.in_ok-frame.frame so_far.0 (more.frame so_far.0.framed) more.exact,
      λ g wide. more.within g wide (so_far.1 g wide),
    )
