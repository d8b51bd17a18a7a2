use Rattle.std.proofs.Common.{◌≡◌, map, take, pos}
use Rattle.isl_shadows.specs.Exact.{AreAdded}
use Rattle.isl_omega.specs.Shadow.{real_row}
use Rattle.isl_meter.specs.Gauge.{IsChargedUpTo}
use Rattle.isl_omega.specs.Units.{paid}
use Rattle.isl_column.proofs.exact.push_pairs_of.Given as goal

abbrev pub invariant-loop-upper : goal.invariant-loop-upper
invariant-loop-upper l = record {
  added : AreAdded l.fn.meter l.column.at (map (real_row l.column.at l.lower) (map (λ row. row.now) (take l.upper-index l.uppers))) l.fn.short l.short;
  charged : IsChargedUpTo (pos l.upper-index) l.fn.meter l.meter;
  exact : l.meter ≡ paid l.upper-index l.fn.meter;
}
