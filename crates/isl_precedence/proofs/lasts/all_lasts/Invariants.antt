use Rattle.std.proofs.Common.{take}
use Rattle.std.specs.List.{All, Any}
use Rattle.isl_meter.specs.Gauge.{IsCharged}
use Rattle.isl_images.specs.Made.{IsPlain}
use Rattle.isl_remainder.specs.Made.{AreMade}
use Rattle.isl_precedence.specs.Later.{ShowsLeft}
use Rattle.isl_precedence.specs.Later.{IsPlainLater}
use Rattle.isl_precedence.specs.Precedence.{HasAt, IsPlainPrecedence, IsSound}
use Rattle.isl_precedence.proofs.lasts.all_lasts.Given as goal

abbrev pub invariant-loop-precedence : goal.invariant-loop-precedence
invariant-loop-precedence l = record {
  made : AreMade (HasAt l.params) (IsSound l.fn.meter l.params) IsPlain
      (All IsPlainPrecedence l.precedences × All IsPlainLater l.laters)
      (λ at. Any (λ r. ShowsLeft l.params l.laters at.0 at.1 r) (take l.precedence-index l.precedences)) l.made.items;
  charged : IsCharged l.fn.meter l.meter;
}
