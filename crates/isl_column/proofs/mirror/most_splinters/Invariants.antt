use Rattle.std.proofs.Common.{◌≡◌, pos, ◌≤ℤ◌, take}
use Rattle.isl_meter.specs.Gauge.{IsWithin}
use Rattle.isl_shadows.specs.Splinters.{splinter_total}
use Rattle.isl_column.proofs.mirror.most_splinters.Given as goal

abbrev pub invariant-loop-lower : goal.invariant-loop-lower
invariant-loop-lower l = (l.most ≤ℤ splinter_total (pos 0) l.greatest l.column.at (take l.lower-index l.lowers))
    × (pos 0 ≤ℤ l.most) × IsWithin l.fn.meter l.most × (l.meter ≡ l.fn.meter)
