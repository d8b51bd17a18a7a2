use Rattle.std.proofs.Common.{◌≡◌}
use Rattle.std.specs.List.{All}
use Rattle.isl_presolve.specs.Unit.{IsUnitRow}
use Rattle.isl_presolve.proofs.choice.leaves_many_splinters.Given as goal

abbrev pub invariant-loop-col : goal.invariant-loop-col
invariant-loop-col l = All IsUnitRow l.rows → l.col ≡ 0
