use Rattle.std.proofs.Common.{◌≡◌, drop}
use Rattle.isl_space.specs.Valuation.{value_at}
use Rattle.isl_eval.proofs.numbers.number_of.Given as goal

abbrev pub invariant-loop-given : goal.invariant-loop-given
invariant-loop-given l = value_at (drop l.given-index l.at) l.name ≡ value_at l.at l.name
