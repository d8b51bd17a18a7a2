use Rattle.std.proofs.Common.{take}
use Rattle.std.specs.List.{All, Any}
use Rattle.isl_remainder.specs.Made.{AreMade}
use Rattle.isl_precedence.specs.Precedence.{HasOccurrence, IsPlainPrecedence, IsPrecedence}
use Rattle.isl_flow.specs.Turned.{turned_back}
use Rattle.isl_flow.proofs.turned.all_turned.Given as goal

abbrev pub invariant-loop-precedence : goal.invariant-loop-precedence
invariant-loop-precedence l =
    AreMade (HasOccurrence l.params) (IsPrecedence l.fn.meter l.params) IsPlainPrecedence (All IsPlainPrecedence l.precedences)
    (λ o. Any (HasOccurrence l.params (turned_back o)) (take l.precedence-index l.precedences)) l.made.items
