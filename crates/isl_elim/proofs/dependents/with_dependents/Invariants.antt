use Rattle.std.proofs.Common.{◌≡◌, ◌+◌, ◌++◌, drop}
use Rattle.isl_piece.specs.System.{free_columns}
use Rattle.isl_elim.specs.Dependents.{dependents_from, with_dependents}
use Rattle.isl_elim.proofs.dependents.with_dependents.Given as goal

abbrev pub invariant-loop-i : goal.invariant-loop-i
invariant-loop-i l = l.gone.items ++ dependents_from (free_columns l.system + l.i) l.gone.items (drop l.i l.system.definitions) ≡ with_dependents l.system l.cols
