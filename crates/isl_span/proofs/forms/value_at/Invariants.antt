use Rattle.std.proofs.Common.{◌≡◌, take}
use Rattle.isl_math.specs.Dot.{dot}
use Rattle.isl_meter.specs.Gauge.{IsWithin}
use Rattle.isl_span.proofs.forms.value_at.Given as goal

abbrev pub invariant-loop-i : goal.invariant-loop-i
invariant-loop-i l = (l.sum ≡ dot (take l.i l.row.coefs) (take l.i l.point)) × IsWithin l.fn.meter l.sum × (l.meter ≡ l.fn.meter)
