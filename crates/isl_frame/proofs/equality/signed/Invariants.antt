use Rattle.std.proofs.Common.{◌≡◌, take}
use Rattle.std.specs.List.{All}
use Rattle.isl_math.specs.Dot.{scaled}
use Rattle.isl_math.specs.Order.{sign_of}
use Rattle.isl_meter.specs.Gauge.{IsWithin}
use Rattle.isl_frame.proofs.equality.signed.Given as goal

abbrev pub invariant-loop-i : goal.invariant-loop-i
invariant-loop-i l = (l.coefs ≡ scaled (sign_of l.by) (take l.i l.numbers)) × All (IsWithin l.meter) l.coefs
