use Rattle.std.proofs.Common.{take}
use Rattle.std.specs.List.{All, Any}
use Rattle.isl_meter.specs.Gauge.{IsCharged}
use Rattle.isl_remainder.specs.Made.{AreMade}
use Rattle.isl_precedence.specs.Later.{ComesLater, HasLater, IsLater, IsPlainLater}
use Rattle.isl_precedence.specs.Precedence.{IsPlainPrecedence}
use Rattle.isl_precedence.proofs.later.all_laters.Given as goal

abbrev pub invariant-loop-precedence : goal.invariant-loop-precedence
invariant-loop-precedence l = record {
  made : AreMade (HasLater l.params) (IsLater l.fn.meter l.params) IsPlainLater (All IsPlainPrecedence l.precedences)
      (λ o. Any (λ r. ComesLater l.params o r) (take l.precedence-index l.precedences)) l.made.items;
  charged : IsCharged l.fn.meter l.meter;
}
