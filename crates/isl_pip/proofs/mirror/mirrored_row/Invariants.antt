use Rattle.std.proofs.Common.{◌≡◌, take}
use Rattle.std.specs.List.{All}
use Rattle.isl_meter.specs.Gauge.{IsWithin}
use Rattle.isl_pip_law.specs.Mirror.{mirrored}
use Rattle.isl_pip.proofs.mirror.mirrored_row.Given as goal

abbrev pub invariant-loop-column : goal.invariant-loop-column
invariant-loop-column l = (l.coefs ≡ take l.column (mirrored l.front l.numbers)) × All (IsWithin l.fn.meter) l.coefs
