use Rattle.std.proofs.Common.{take}
use Rattle.std.specs.List.{All, Any}
use Rattle.isl_meter.specs.Gauge.{IsCharged}
use Rattle.isl_images.specs.Made.{IsPlain}
use Rattle.isl_remainder.specs.Made.{AreMade}
use Rattle.isl_precedence.specs.Precedence.{HasOccurrence, IsPlainPrecedence, IsAccessed, StartsAt}
use Rattle.isl_precedence.proofs.precedence.of_source.Given as goal

abbrev pub invariant-loop-sink : goal.invariant-loop-sink
invariant-loop-sink l = record {
  made : AreMade (HasOccurrence l.params) (IsAccessed l.fn.meter l.params) IsPlainPrecedence ((IsPlain l.source × All IsPlain
      l.sinks) × All IsPlain l.times)
      (λ o. Any (λ p. StartsAt l.params l.source p l.times o) (take l.sink-index l.sinks)) l.made.items;
  charged : IsCharged l.fn.meter l.meter;
}
