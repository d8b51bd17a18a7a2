use Rattle.std.proofs.Common.{◌≡◌, ◌+ℤ◌, take}
use Rattle.isl_math.specs.Dot.{dot}
use Rattle.isl_meter.specs.Gauge.{IsWithin}
use Rattle.isl_elim.proofs.between.value_at.Given as goal

abbrev pub invariant-loop-i : goal.invariant-loop-i
invariant-loop-i l = (l.sum ≡ l.row.constant +ℤ dot (take l.i l.row.coefs) (take l.i l.point)) × IsWithin l.fn.meter l.sum × (l.meter ≡ l.fn.meter)
