use Rattle.std.proofs.Common.{◌≡◌, take}
use Rattle.isl_affine.proofs.scope.Scope.copy.Given as goal

abbrev pub invariant-loop-entry : goal.invariant-loop-entry
invariant-loop-entry l = l.names.items ≡ take l.entry-index l.self
