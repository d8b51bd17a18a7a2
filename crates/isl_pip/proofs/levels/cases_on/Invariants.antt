use Rattle.std.proofs.Common.{◌≡◌, take}
use Rattle.isl_pip.specs.Levels.{AreCasesOn}
use Rattle.isl_pip.proofs.levels.cases_on.Given as goal

abbrev pub invariant-loop-tower : goal.invariant-loop-tower
invariant-loop-tower l = AreCasesOn l.fn.meter l.column l.height (take l.tower-index l.towers) l.cases.items × (l.meter ≡ l.fn.meter)
