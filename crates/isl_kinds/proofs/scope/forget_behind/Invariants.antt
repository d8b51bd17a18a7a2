use Rattle.std.proofs.Common.{◌≡◌, ◌≤◌, length}
use Rattle.isl_kinds.proofs.ForgetLaws.{passed_behind, stays}
use Rattle.isl_kinds.proofs.scope.forget_behind.Given as goal

abbrev pub invariant-loop-at : goal.invariant-loop-at
invariant-loop-at g l = (l.at ≤ length l.fn.bound.entries) × (l.bound.entries ≡ passed_behind stays l.fn.bound.entries l.at)

abbrev pub decreases-loop-at : goal.decreases-loop-at
decreases-loop-at g l = l.at
