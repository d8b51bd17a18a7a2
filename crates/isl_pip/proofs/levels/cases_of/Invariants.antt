use Rattle.std.proofs.Common.{◌≡◌, take}
use Rattle.isl_pip.specs.Levels.{AreCasesOf}
use Rattle.isl_pip.proofs.levels.cases_of.Given as goal

abbrev pub invariant-loop-system : goal.invariant-loop-system
invariant-loop-system l = AreCasesOf l.fn.meter l.column (take l.system-index l.systems) l.cases.items × (l.meter ≡ l.fn.meter)
