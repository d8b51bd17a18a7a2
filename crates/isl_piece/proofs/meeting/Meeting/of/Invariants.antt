use Rattle.std.proofs.Common.{◌≡◌, ◌≤◌, take}
use Rattle.isl_piece.specs.Meet.{meeting_of, IsPlaced}
use Rattle.isl_piece.specs.System.{free_columns}
use Rattle.isl_piece.proofs.meeting.Meeting.of.Given as goal

abbrev pub invariant-loop-definition : goal.invariant-loop-definition
invariant-loop-definition l =
    (l.meeting ≡ meeting_of l.a (take l.definition-index l.definitions)) × IsPlaced (free_columns l.a) l.meeting × (l.a.columns ≤ l.meeting.columns)
