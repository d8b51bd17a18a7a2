use Rattle.std.proofs.Common.{take}
use Rattle.isl_space.proofs.NamesLaws.{JoinsFront}
use Rattle.isl_space.proofs.params.join.Given as goal

-- the others so far are joined to the names that stood there, and have their places
abbrev pub invariant-loop-other : goal.invariant-loop-other
invariant-loop-other l = JoinsFront l.initial.names.keys (take l.other-index l.others) l.names.keys l.places.items
