use Rattle.std.proofs.Common.{◌≡◌, [], take}
use Rattle.std.specs.List.{Any}
use Rattle.isl_meter.specs.Gauge.{IsCharged}
use Rattle.isl_precedence.specs.Later.{ComesLaterAt, HasLater, IsLater, IsPlainLater}
use Rattle.isl_remainder.specs.Made.{AreMade}
use Rattle.isl_precedence.proofs.OrderLaws.{places_in}
use Rattle.isl_precedence.proofs.later.laters_of.Given as goal

abbrev pub invariant-loop-at : goal.invariant-loop-at
invariant-loop-at l = record {
  made : AreMade (HasLater l.params) (IsLater l.fn.meter l.params) IsPlainLater (l.system.definitions ≡ [])
      (λ o. Any (λ i. ComesLaterAt l.params l.precedence.forms l.system i o) (take l.at (places_in l.precedence.forms))) l.made.items;
  charged : IsCharged l.fn.meter l.meter;
}
