use Rattle.std.proofs.Common.{◌≡◌, take}
use Rattle.std.specs.List.{remove}
use Rattle.isl_omega.proofs.rows.coefs_without.Given as goal

abbrev pub invariant-loop-i : goal.invariant-loop-i
invariant-loop-i l = l.kept ≡ remove (take l.i l.coefs) l.col
