use Rattle.std.proofs.Common.{◌≡◌, ◌++◌, length, reverse}
use Rattle.isl_flat.proofs.partial.reversed.Given as goal

abbrev pub invariant-loop-item : goal.invariant-loop-item
invariant-loop-item g l = l.initial.left ≡ l.left ++ reverse l.turned

abbrev pub decreases-loop-item : goal.decreases-loop-item
decreases-loop-item g l = length l.left
