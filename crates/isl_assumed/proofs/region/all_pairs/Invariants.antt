use Rattle.std.proofs.Common.{◌≡◌, ◌+◌, ◌*◌, length, take}
use Rattle.isl_meter.specs.Gauge.{IsCharged}
use Rattle.isl_assumed.specs.Left.{AreMet}
use Rattle.isl_assumed.proofs.region.all_pairs.Given as goal

abbrev pub invariant-loop-system : goal.invariant-loop-system
invariant-loop-system l = record {
  met : AreMet l.fn.meter l.names (take l.system-index l.systems) l.others l.all.items;
  units : l.meter.units ≡ l.fn.meter.units + length (take l.system-index l.systems) * length l.others;
  charged : IsCharged l.fn.meter l.meter;
}
