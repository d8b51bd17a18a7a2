use Rattle.std.proofs.Common.{◌≡◌, pos, ◌≤ℤ◌, ◌+ℤ◌, take, map}
use Rattle.isl_meter.specs.Gauge.{IsWithin}
use Rattle.isl_shadows.specs.Splinters.{splinter_total}
use Rattle.isl_shadows.specs.Mirror.{mirrored_row}
use Rattle.isl_column.proofs.mirror.ask_for_at_most.Given as goal

abbrev pub invariant-loop-upper : goal.invariant-loop-upper
invariant-loop-upper l =
    ((splinter_total (pos 0) l.greatest l.column.at (map (mirrored_row l.column.at) (take l.upper-index l.uppers)) +ℤ l.left) ≤ℤ l.fn.most)
    × (pos 0 ≤ℤ l.left) × IsWithin l.fn.meter l.left × (l.meter ≡ l.fn.meter)
