-- The texts of refusals are short.
use Rattle.std.proofs.Common.{◌≤◌, length, arith}
use Rattle.isl_refusal.specs.declared.refusal.Refusal.{Refusal}
use Rattle.isl_refusal.specs.declared.refusal.Refusal.TheVariants.{Usage, Syntax, UnknownName, WrongKind, NoMinimum, Unbounded, SeveralTimes}
use Rattle.isl_refusal.specs.declared.refusal.Refusal.TheVariants.{TimeShape, Nested, Parametric, TooWide, TooDeep, WideNumber, TooLong}
use Rattle.isl_refusal.specs.declared.refusal.Refusal.TheVariants.{Unfinished, Overflow, Budget, ReadFault, WriteFault, NoMemory}
use Rattle.isl_refusal.specs.declared.refusal.Refusal.TheVariants.{ScriptTooLong, NoElement, NoValuation, NotAssumed}
use Rattle.isl_refusal.specs.Refusal.{text_of}

pub text_is_short : (refusal : Refusal) → length (text_of refusal) ≤ 120
text_is_short Usage = omega arith
text_is_short Syntax = omega arith
text_is_short UnknownName = omega arith
text_is_short WrongKind = omega arith
text_is_short NoMinimum = omega arith
text_is_short Unbounded = omega arith
text_is_short SeveralTimes = omega arith
text_is_short TimeShape = omega arith
text_is_short Nested = omega arith
text_is_short Parametric = omega arith
text_is_short TooWide = omega arith
text_is_short TooDeep = omega arith
text_is_short WideNumber = omega arith
text_is_short TooLong = omega arith
text_is_short Unfinished = omega arith
text_is_short Overflow = omega arith
text_is_short Budget = omega arith
text_is_short ReadFault = omega arith
text_is_short WriteFault = omega arith
text_is_short NoMemory = omega arith
text_is_short ScriptTooLong = omega arith
text_is_short NoElement = omega arith
text_is_short NoValuation = omega arith
text_is_short NotAssumed = omega arith
