use Rattle.std.proofs.Common.{◌≡◌, [], take}
use Rattle.std.specs.List.{Any}
use Rattle.isl_meter.specs.Gauge.{IsCharged}
use Rattle.isl_remainder.specs.Made.{AreMade}
use Rattle.isl_precedence.specs.Precedence.{HasOccurrence, IsPlainPrecedence, IsAccessed}
use Rattle.isl_precedence.proofs.OrderLaws.{DiffersFirst, places_in}
use Rattle.isl_precedence.proofs.order.ordered.Given as goal

abbrev pub invariant-loop-at : goal.invariant-loop-at
invariant-loop-at l = record {
  made : AreMade (HasOccurrence l.params) (IsAccessed l.fn.meter l.params) IsPlainPrecedence (l.system.definitions ≡ [])
      (λ o. Any (DiffersFirst l.params l.forms l.system o) (take l.at (places_in l.forms))) l.made.items;
  charged : IsCharged l.fn.meter l.meter;
}
