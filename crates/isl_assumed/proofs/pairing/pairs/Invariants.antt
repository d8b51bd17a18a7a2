use Rattle.std.proofs.Common.{◌≡◌, ◌+◌, length, take}
use Rattle.isl_meter.specs.Gauge.{IsCharged}
use Rattle.isl_assumed.specs.Left.{ArePairs}
use Rattle.isl_assumed.proofs.pairing.pairs.Given as goal

abbrev pub invariant-loop-other : goal.invariant-loop-other
invariant-loop-other l = record {
  pairs : ArePairs l.fn.meter l.names l.more l.system (take l.other-index l.others) l.pairs.items;
  units : l.meter.units ≡ l.fn.meter.units + length (take l.other-index l.others);
  charged : IsCharged l.fn.meter l.meter;
}
