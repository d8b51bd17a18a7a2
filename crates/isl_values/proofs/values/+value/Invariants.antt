use Rattle.isl_values.specs.Depth.{depth_of, depth_of_links, depth_of_postfix, depth_of_postfixes, depth_of_three}
use Rattle.isl_values.proofs.LinkLaws.{IsRowTo}
use Rattle.isl_values.proofs.PostfixLaws.{IsPostTo}
use Rattle.isl_values.proofs.values.+value.Given as goal

abbrev pub decreases-part_of : goal.decreases-part_of
decreases-part_of l = depth_of l.expr.now

abbrev pub decreases-three_of : goal.decreases-three_of
decreases-three_of l = depth_of_three l.source.now l.sink.now l.schedule.now

abbrev pub decreases-joined_past : goal.decreases-joined_past
decreases-joined_past l = depth_of_links l.links.now

abbrev pub decreases-past_postfixes : goal.decreases-past_postfixes
decreases-past_postfixes l = depth_of_postfixes l.postfixes.now

abbrev pub decreases-followed : goal.decreases-followed
decreases-followed l = depth_of_postfix l.postfix.now

abbrev pub invariant-joined_past-loop-link : goal.invariant-joined_past-loop-link
invariant-joined_past-loop-link l =
    IsRowTo l.state l.links l.initial.left.value l.link-index l.fn.meter l.meter l.left.value

abbrev pub invariant-past_postfixes-loop-postfix : goal.invariant-past_postfixes-loop-postfix
invariant-past_postfixes-loop-postfix l =
    IsPostTo l.state l.postfixes l.initial.left.value l.postfix-index l.fn.meter l.meter l.left.value
