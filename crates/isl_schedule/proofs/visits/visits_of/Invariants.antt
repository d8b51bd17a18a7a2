use Rattle.std.proofs.Common.{◌≡◌, [], take}
use Rattle.std.specs.List.{All, AllZip}
use Rattle.isl_schedule.specs.Visits.{IsVisitOf}
use Rattle.isl_schedule.proofs.visits.visits_of.Given as goal

abbrev pub invariant-loop-piece : goal.invariant-loop-piece
invariant-loop-piece l = AllZip (IsVisitOf l.meter l.params) (take l.piece-index l.pieces) l.visits.items
    × (All (λ p. p.system.definitions ≡ []) l.pieces → All (λ v. v.system.definitions ≡ []) l.visits.items)
