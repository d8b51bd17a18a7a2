use Rattle.std.proofs.Common.{◌≡◌, take}
use Rattle.isl_row_text.proofs.names.param_names.Given as goal

abbrev pub invariant-loop-at : goal.invariant-loop-at
invariant-loop-at l = l.names.items ≡ take l.at l.params
