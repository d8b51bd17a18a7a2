use Rattle.std.proofs.Common.{◌≡◌, None}
use Rattle.std.specs.List.{All}
use Rattle.isl_presolve.specs.Unit.{IsUnitRow}
use Rattle.isl_presolve.proofs.reduction.euclid_step.Given as goal

abbrev pub invariant-loop-row : goal.invariant-loop-row
invariant-loop-row l = All IsUnitRow l.rows → l.found ≡ None
