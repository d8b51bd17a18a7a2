use Rattle.std.proofs.Common.{◌≡◌, [], take}
use Rattle.std.specs.List.{All, Any}
use Rattle.isl_meter.specs.Gauge.{IsCharged}
use Rattle.isl_remainder.specs.Made.{AreMade}
use Rattle.isl_remainder.specs.Over.{HoldsGiven, HoldsLong, IsAcross}
use Rattle.isl_remainder.proofs.over.all_given.Given as goal

abbrev pub invariant-loop-other : goal.invariant-loop-other
invariant-loop-other l = record {
  made : AreMade (HoldsLong l.columns) (IsAcross l.fn.meter l.columns) (λ s. s.definitions ≡ [])
      ((l.one.definitions ≡ []) × All (λ s. s.definitions ≡ []) l.others)
      (λ point. Any (λ s. HoldsGiven l.one l.columns point s) (take l.other-index l.others)) l.made.items;
  charged : IsCharged l.fn.meter l.meter;
}
