use Rattle.std.proofs.Common.{◌≡◌, take, ◌^◌, ◌-◌}
use Rattle.std.specs.Prelude.{min}
use Rattle.isl_words.specs.Number.{value_of}
use Rattle.isl_words.proofs.number.saturated.Given as goal

abbrev pub invariant-loop-digit : goal.invariant-loop-digit
invariant-loop-digit l = l.value ≡ min (value_of (take l.digit-index l.digits)) (2 ^ 128 - 1)
