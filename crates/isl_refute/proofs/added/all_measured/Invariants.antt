use Rattle.std.proofs.Common.{◌≡◌, take}
use Rattle.std.specs.List.{All}
use Rattle.isl_meter.specs.Gauge.{IsWithin}
use Rattle.isl_refute.proofs.added.all_measured.Given as goal

abbrev pub invariant-loop-i : goal.invariant-loop-i
invariant-loop-i l = (l.coefs ≡ take l.i l.numbers) × All (IsWithin l.fn.meter) l.coefs × (l.meter ≡ l.fn.meter)
