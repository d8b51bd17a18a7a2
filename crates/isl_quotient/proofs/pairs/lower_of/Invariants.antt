use Rattle.std.proofs.Common.{take}
use Rattle.isl_quotient.specs.Quotient.{PinsNone}
use Rattle.isl_quotient.proofs.pairs.lower_of.Given as goal

abbrev pub invariant-loop-i : goal.invariant-loop-i
invariant-loop-i l = PinsNone (take l.i l.rows) l.col l.upper
