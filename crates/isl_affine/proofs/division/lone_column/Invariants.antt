use Rattle.std.proofs.Common.{◌≡◌, ◌≢◌, ◌<◌, ℕ, pos, get_or}
use Rattle.isl_affine.proofs.division.lone_column.Given as goal

abbrev pub invariant-loop-i : goal.invariant-loop-i
invariant-loop-i l = (j : ℕ) → j < l.i → j ≢ l.column → get_or l.coefs j (pos 0) ≡ pos 0
