use Rattle.std.proofs.Common.{take}
use Rattle.std.specs.List.{All, Any}
use Rattle.isl_meter.specs.Gauge.{IsCharged}
use Rattle.isl_images.specs.Made.{IsPlain}
use Rattle.isl_remainder.specs.Made.{AreMade}
use Rattle.isl_precedence.specs.Precedence.{HasOccurrence, IsPlainPrecedence, IsAccessed, SinksIn}
use Rattle.isl_precedence.proofs.precedence.precedences.Given as goal

abbrev pub invariant-loop-source : goal.invariant-loop-source
invariant-loop-source l = record {
  made : AreMade (HasOccurrence l.params) (IsAccessed l.fn.meter l.params) IsPlainPrecedence ((All IsPlain l.sources × All IsPlain
      l.sinks) × All IsPlain l.times)
      (λ o. Any (λ p. SinksIn l.params p l.sinks l.times o) (take l.source-index l.sources)) l.made.items;
  charged : IsCharged l.fn.meter l.meter;
}
