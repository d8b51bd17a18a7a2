use Rattle.std.proofs.Common.{◌≡◌, take}
use Rattle.isl_space.specs.Valuation.{values_of}
use Rattle.isl_eval.proofs.numbers.numbers_of.Given as goal

abbrev pub invariant-loop-place : goal.invariant-loop-place
invariant-loop-place l = l.numbers.items ≡ values_of (take l.place l.params) l.options.at
