use Rattle.std.proofs.Common.{take}
use Rattle.std.specs.List.{AllZip}
use Rattle.isl_meter.specs.Gauge.{IsCharged}
use Rattle.isl_scan.proofs.GatheredLaws.{IsOverPiece}
use Rattle.isl_scan.proofs.elements.fibres_over.Given as goal

abbrev pub invariant-loop-piece : goal.invariant-loop-piece
invariant-loop-piece l =
    AllZip (IsOverPiece l.fn.meter l.at) (take l.piece-index l.pieces) l.fibres.items × IsCharged l.fn.meter l.meter
