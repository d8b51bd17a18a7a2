use Rattle.std.proofs.Common.{◌+◌, ◌-◌, length}
use Rattle.isl_scan.specs.Merged.{IsMerging}
use Rattle.isl_scan.proofs.merge.merged.Given as goal

abbrev pub invariant-loop-merging : goal.invariant-loop-merging
invariant-loop-merging l =
    IsMerging l.firsts l.seconds l.merging.numbers.items l.merging.count l.merging.first l.merging.second

abbrev pub decreases-loop-merging : goal.decreases-loop-merging
decreases-loop-merging l = (length l.firsts - l.merging.first) + (length l.seconds - l.merging.second)
