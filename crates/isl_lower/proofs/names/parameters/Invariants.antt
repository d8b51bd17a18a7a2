use Rattle.std.proofs.Common.{◌≡◌, take}
use Rattle.isl_lower.specs.Names.{parameter_names}
use Rattle.isl_lower.proofs.names.parameters.Given as goal

abbrev pub invariant-loop-name : goal.invariant-loop-name
invariant-loop-name l = l.scope ≡ parameter_names (take l.name-index l.params)
