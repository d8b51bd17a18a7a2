use Rattle.std.proofs.Common.{◌≡◌}
use Rattle.std.specs.List.{All}
use Rattle.isl_presolve.specs.Unit.{IsUnitRow}
use Rattle.isl_presolve.proofs.choice.ColumnUse.splinters.Given as goal

abbrev pub invariant-loop-row : goal.invariant-loop-row
invariant-loop-row l = All IsUnitRow l.rows → l.sum ≡ 0
