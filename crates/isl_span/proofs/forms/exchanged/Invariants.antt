use Rattle.std.proofs.Common.{get_or, length, take}
use Rattle.std.specs.List.{AllZip}
use Rattle.isl_meter.specs.Gauge.{IsCharged}
use Rattle.isl_piece.specs.declared.row.Row.{Row}
use Rattle.isl_span.specs.Forms.{IsExchanged}
use Rattle.isl_span.proofs.forms.exchanged.Given as goal

abbrev pub invariant-loop-i : goal.invariant-loop-i
invariant-loop-i l = record {
  each : AllZip (λ form left. (d : Row) → IsExchanged l.fn.meter (length l.point) (get_or l.forms l.at d) l.point form left)
      (take l.i l.forms) l.left;
  charged : IsCharged l.fn.meter l.meter;
}
