use Rattle.std.proofs.Common.{◌≡◌, drop}
use Rattle.isl_kinds.specs.Typed.{joined_names}
use Rattle.isl_kinds.proofs.params.join.Given as goal

abbrev pub invariant-loop-other : goal.invariant-loop-other
invariant-loop-other l = joined_names l.names.keys (drop l.other-index l.others) ≡ joined_names l.initial.names.keys l.others
