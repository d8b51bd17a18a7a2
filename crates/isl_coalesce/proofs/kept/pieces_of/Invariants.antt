use Rattle.std.proofs.Common.{◌≡◌, take}
use Rattle.isl_coalesce.specs.Slots.{present}
use Rattle.isl_coalesce.proofs.kept.pieces_of.Given as goal

abbrev pub invariant-loop-slot : goal.invariant-loop-slot
invariant-loop-slot l = l.pieces.items ≡ present (take l.slot-index l.slots)
