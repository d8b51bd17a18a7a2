use Rattle.std.proofs.Common.{◌≡◌, take, pos, IfSome}
use Rattle.isl_omega.specs.Shadow.{IsShadowSoFar, IsCap}
use Rattle.isl_meter.specs.Gauge.{IsWithin, IsChargedUpTo}
use Rattle.isl_omega.specs.Units.{paid}
use Rattle.isl_omega.proofs.shadow.shadow_of.Given as goal

abbrev pub invariant-loop-upper : goal.invariant-loop-upper
invariant-loop-upper l = record {
  so_far : IsShadowSoFar l.fn.meter l.uppers.column.columns l.uppers.column.at l.lower (take l.upper-index l.uppers.rows.now) l.fn.rows l.rows l.greatest;
  charged : IsChargedUpTo (pos l.upper-index) l.fn.meter l.meter;
  cap : IfSome l.cap (IsCap l.uppers.column.columns l.uppers.column.at l.lower (take l.upper-index l.uppers.rows.now));
  cap_within : IfSome l.cap (IsWithin l.fn.meter);
  exact : l.meter ≡ paid l.upper-index l.fn.meter;
}
