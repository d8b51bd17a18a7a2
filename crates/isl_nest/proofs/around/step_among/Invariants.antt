use Rattle.std.proofs.Common.{◌≡◌, take}
use Rattle.std.specs.List.{All}
use Rattle.isl_nest.specs.Stepping.{TellsStep}
use Rattle.isl_nest.proofs.around.step_among.Given as goal

abbrev pub invariant-loop-row : goal.invariant-loop-row
invariant-loop-row l = (l.meter ≡ l.fn.meter) × All (λ r. ¬ TellsStep l.variables r) (take l.row-index l.rows)
