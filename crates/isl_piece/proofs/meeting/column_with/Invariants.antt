use Rattle.std.proofs.Common.{◌≡◌, ◌+◌, drop}
use Rattle.isl_piece.specs.Meet.{column_with}
use Rattle.isl_piece.proofs.meeting.column_with.Given as goal

abbrev pub invariant-loop-i : goal.invariant-loop-i
invariant-loop-i l = column_with l.definition l.taken (l.free + l.i) (drop l.i l.definitions) ≡ column_with l.definition l.taken l.free l.definitions
