use Rattle.std.proofs.Common.{◌≡◌, negsuc, take}
use Rattle.std.specs.List.{All}
use Rattle.isl_math.specs.Dot.{scaled}
use Rattle.isl_meter.specs.Gauge.{IsWithin}
use Rattle.isl_refute.proofs.steps.negative.Given as goal

abbrev pub invariant-loop-coef : goal.invariant-loop-coef
invariant-loop-coef l = (l.made ≡ scaled (negsuc 0) (take l.coef-index l.coefs)) × All (IsWithin l.meter) l.made
