use Rattle.std.proofs.Common.{◌≡◌, ◌<◌, take, length}
use Rattle.std.specs.Prelude.{IfSome}
use Rattle.isl_affine.specs.Scope.{column_of}
use Rattle.isl_affine.proofs.scope.Scope.column.Given as goal

abbrev pub invariant-loop-at : goal.invariant-loop-at
invariant-loop-at l = (l.found ≡ column_of (take l.at l.self) l.name) × IfSome l.found (λ column. column < length l.self)
