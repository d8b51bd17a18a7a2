use Rattle.std.proofs.Common.{◌≡◌, ◌-◌}
use Rattle.isl_token.specs.Reading.{rest_of}
use Rattle.isl_formula.specs.Term.{times, sees_times, next_number}
use Rattle.isl_formula.proofs.term.times.Given as goal

abbrev pub invariant-loop-turn : goal.invariant-loop-turn
invariant-loop-turn l = times l.fn.numbers l.fn.tokens ≡ rest_of sees_times next_number (l._turn-end - l._turn) l.numbers l.tokens
