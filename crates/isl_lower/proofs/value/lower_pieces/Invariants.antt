use Rattle.std.proofs.Common.{take}
use Rattle.isl_meter.specs.Gauge.{IsCharged}
use Rattle.isl_lower.specs.Made.{AreMadeOf}
use Rattle.isl_lower.proofs.value.lower_pieces.Given as goal

abbrev pub invariant-loop-piece : goal.invariant-loop-piece
invariant-loop-piece l = record {
  made : AreMadeOf l.fn.meter l.meter l.names (take l.piece-index l.pieces) l.made.items;
  charged : IsCharged l.fn.meter l.meter;
}
