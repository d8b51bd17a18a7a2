use Rattle.std.proofs.Common.{◌≡◌, ◌≤◌, drop, length}
use Rattle.isl_piece.specs.Meet.{put_at, placed}
use Rattle.isl_piece.proofs.meeting.Places.placed.Given as goal

abbrev pub invariant-loop-i : goal.invariant-loop-i
invariant-loop-i l = (put_at l.made (drop l.i l.self) (drop l.i l.coefs) ≡ placed l.columns l.self l.coefs) × (length l.made ≡ l.columns) × (l.i ≤ length l.self)
