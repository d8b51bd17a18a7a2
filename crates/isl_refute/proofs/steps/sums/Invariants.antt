use Rattle.std.proofs.Common.{◌≡◌, take}
use Rattle.std.specs.List.{All}
use Rattle.isl_math.specs.Dot.{weighted_sum}
use Rattle.isl_meter.specs.Gauge.{IsWithin}
use Rattle.isl_refute.proofs.steps.sums.Given as goal

abbrev pub invariant-loop-i : goal.invariant-loop-i
invariant-loop-i l =
    (l.coefs ≡ weighted_sum l.fn.a (take l.i l.left) l.fn.b (take l.i l.right)) × All (IsWithin l.fn.meter) l.coefs × (l.meter ≡ l.fn.meter)
