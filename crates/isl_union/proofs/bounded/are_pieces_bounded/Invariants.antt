use Rattle.std.proofs.Common.{take}
use Rattle.std.specs.List.{All}
use Rattle.isl_meter.specs.Gauge.{IsCharged}
use Rattle.isl_union.specs.Front.{IsBoundedBehind}
use Rattle.isl_union.proofs.bounded.are_pieces_bounded.Given as goal

abbrev pub invariant-loop-piece : goal.invariant-loop-piece
invariant-loop-piece l = All (λ p. IsBoundedBehind l.front p.system) (take l.piece-index l.pieces) × IsCharged l.fn.meter l.meter
