use Rattle.std.proofs.Common.{◌≡◌, ◌≤◌, length, take}
use Rattle.isl_omega.specs.Sides.{on_side}
use Rattle.isl_presolve.specs.Pairs.{bound_side}
use Rattle.isl_presolve.proofs.pairs.bounds_on.Given as goal

abbrev pub invariant-loop-row : goal.invariant-loop-row
invariant-loop-row l = (l.count ≡ length (on_side (bound_side l.lower) l.col (take l.row-index l.rows))) × (l.count ≤ l.row-index)
