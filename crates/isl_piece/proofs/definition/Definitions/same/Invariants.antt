use Rattle.std.proofs.Common.{◌≡◌, take}
use Rattle.isl_piece.proofs.definition.Definitions.same.Given as goal

abbrev pub invariant-loop-i : goal.invariant-loop-i
invariant-loop-i l = take l.i l.self ≡ take l.i l.other
