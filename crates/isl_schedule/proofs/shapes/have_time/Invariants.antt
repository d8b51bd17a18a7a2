use Rattle.std.proofs.Common.{◌≡◌, take}
use Rattle.std.specs.List.{All}
use Rattle.isl_space.specs.Shape.{form_of}
use Rattle.isl_schedule.specs.Schedule.{time_form}
use Rattle.isl_schedule.proofs.shapes.have_time.Given as goal

abbrev pub invariant-loop-piece : goal.invariant-loop-piece
invariant-loop-piece l = All (λ piece. time_form piece.space ≡ form_of l.time) (take l.piece-index l.pieces)
