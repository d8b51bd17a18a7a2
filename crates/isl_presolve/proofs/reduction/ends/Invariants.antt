use Rattle.std.proofs.Common.{◌≡◌, ◌≤◌, IfSome, unsigned_abs}
use Rattle.std.specs.List.{All}
use Rattle.isl_presolve.proofs.reduction.ends.Given as goal

abbrev pub invariant-loop-col : goal.invariant-loop-col
invariant-loop-col l = All (λ c. unsigned_abs c ≤ 1) l.row.coefs → IfSome l.least (λ e. unsigned_abs e.number ≡ 1)
