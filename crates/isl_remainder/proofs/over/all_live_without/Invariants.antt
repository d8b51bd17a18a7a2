use Rattle.std.proofs.Common.{◌≡◌, ◌++◌, []}
use Rattle.std.specs.List.{All, Any}
use Rattle.isl_meter.specs.Gauge.{IsCharged}
use Rattle.isl_difference.specs.Split.{IsLive}
use Rattle.isl_remainder.specs.Made.{AreMade}
use Rattle.isl_remainder.specs.Over.{HoldsLong, HoldsLongBefore}
use Rattle.isl_remainder.proofs.over.all_live_without.Given as goal

abbrev pub invariant-loop-system : goal.invariant-loop-system
invariant-loop-system l = record {
  split : l.yielded ++ l.system-iterator.rest.items ≡ l.fn.systems.items;
  made : AreMade (HoldsLong l.kept) (IsLive l.fn.meter l.kept) (λ s. s.definitions ≡ [])
      (All (λ s. s.definitions ≡ []) l.fn.systems.items) (λ point. Any (HoldsLongBefore l.kept l.count point) l.yielded) l.made.items;
  charged : IsCharged l.fn.meter l.meter;
}
