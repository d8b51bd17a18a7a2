use Rattle.std.proofs.Common.{◌≡◌, true, take}
use Rattle.std.specs.List.{All}
use Rattle.isl_quotient.specs.Pair.{names_only}
use Rattle.isl_quotient.specs.Quotient.{PinsNone}
use Rattle.isl_quotient.proofs.pairs.pair_at.Given as goal

abbrev pub invariant-loop-upper : goal.invariant-loop-upper
invariant-loop-upper l = All (λ upper. names_only l.col l.cols upper ≡ true → PinsNone l.rows l.col upper) (take l.upper l.rows)
