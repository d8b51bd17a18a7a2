use Rattle.std.proofs.Common.{take}
use Rattle.std.specs.List.{All, Any}
use Rattle.isl_meter.specs.Gauge.{IsCharged}
use Rattle.isl_images.specs.Made.{IsPlain}
use Rattle.isl_remainder.specs.Made.{AreMade}
use Rattle.isl_precedence.specs.Precedence.{HasOccurrence, IsPlainPrecedence, IsAccessed, AreOrdered}
use Rattle.isl_precedence.proofs.precedence.from_start.Given as goal

abbrev pub invariant-loop-stop : goal.invariant-loop-stop
invariant-loop-stop l = record {
  made : AreMade (HasOccurrence l.params) (IsAccessed l.fn.meter l.params) IsPlainPrecedence ((IsPlain l.accesses.source.now ×
      IsPlain l.accesses.sink.now) × (IsPlain l.start × All IsPlain l.times))
      (λ o. Any (λ p. AreOrdered l.params l.accesses.source.now l.accesses.sink.now l.start p o) (take l.stop-index l.times)) l.made.items;
  charged : IsCharged l.fn.meter l.meter;
}
