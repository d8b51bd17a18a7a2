use Rattle.std.proofs.Common.{◌≡◌, take}
use Rattle.std.specs.List.{All, remove}
use Rattle.isl_math.specs.Dot.{weighted_sum}
use Rattle.isl_meter.specs.Gauge.{IsWithin}
use Rattle.isl_omega.proofs.combine.weighted_without.Given as goal

abbrev pub invariant-loop-i : goal.invariant-loop-i
invariant-loop-i l = record {
  sums : l.coefs ≡ remove (weighted_sum l.left.times (take l.i l.left.numbers.now) l.right.times (take l.i l.right.numbers.now)) l.col;
  within : All (IsWithin l.fn.meter) l.coefs;
  same : l.meter ≡ l.fn.meter;
}
