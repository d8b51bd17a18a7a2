use Rattle.std.proofs.Common.{◌≡◌, take}
use Rattle.isl_piece.specs.Meet.{IsPlaced}
use Rattle.isl_piece.specs.Placed.{placing_of}
use Rattle.isl_piece.proofs.meeting.Meeting.placing.Given as goal

abbrev pub invariant-loop-definition : goal.invariant-loop-definition
invariant-loop-definition l =
    (l.meeting ≡ placing_of l.columns l.places (take l.definition-index l.definitions)) × IsPlaced l.columns l.meeting
