use Rattle.std.proofs.Common.{take}
use Rattle.std.specs.List.{All}
use Rattle.isl_schedule.specs.Schedule.{domain_form, IsPair}
use Rattle.isl_schedule.proofs.shapes.have_nested.Given as goal

abbrev pub invariant-loop-piece : goal.invariant-loop-piece
invariant-loop-piece l = All (λ piece. ¬ IsPair (domain_form piece.space)) (take l.piece-index l.pieces)
