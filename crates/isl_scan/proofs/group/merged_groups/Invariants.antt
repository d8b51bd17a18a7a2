use Rattle.std.proofs.Common.{◌+◌, [], reverse, vec_len}
use Rattle.isl_scan.specs.Groups.{AreLeft}
use Rattle.isl_scan.proofs.group.merged_groups.Given as goal

-- what is merged, and what is left of both
abbrev pub invariant-loop-first : goal.invariant-loop-first
invariant-loop-first l =
    AreLeft [] l.fn.firsts.items l.fn.seconds.items l.groups.items (reverse l.firsts.items) (reverse l.seconds.items)

abbrev pub decreases-loop-first : goal.decreases-loop-first
decreases-loop-first l = vec_len l.firsts + vec_len l.seconds
