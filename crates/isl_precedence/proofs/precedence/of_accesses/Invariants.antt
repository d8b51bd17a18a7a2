use Rattle.std.proofs.Common.{take}
use Rattle.std.specs.List.{All, Any}
use Rattle.isl_meter.specs.Gauge.{IsCharged}
use Rattle.isl_images.specs.Made.{IsPlain}
use Rattle.isl_remainder.specs.Made.{AreMade}
use Rattle.isl_precedence.specs.Precedence.{HasOccurrence, IsPlainPrecedence, IsAccessed, StopsAt}
use Rattle.isl_precedence.proofs.precedence.of_accesses.Given as goal

abbrev pub invariant-loop-start : goal.invariant-loop-start
invariant-loop-start l = record {
  made : AreMade (HasOccurrence l.params) (IsAccessed l.fn.meter l.params) IsPlainPrecedence ((IsPlain l.accesses.source.now ×
      IsPlain l.accesses.sink.now) × All IsPlain l.times)
      (λ o. Any (λ p. StopsAt l.params l.accesses.source.now l.accesses.sink.now p l.times o) (take l.start-index l.times)) l.made.items;
  charged : IsCharged l.fn.meter l.meter;
}
