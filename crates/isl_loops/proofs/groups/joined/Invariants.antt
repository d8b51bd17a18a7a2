use Rattle.std.proofs.Common.{◌≡◌}
use Rattle.isl_loops.specs.Groups.{members_of}
use Rattle.isl_loops.proofs.groups.joined.Given as goal

abbrev pub invariant-loop-other : goal.invariant-loop-other
invariant-loop-other l = l.group.items ≡ members_of l.yielded
