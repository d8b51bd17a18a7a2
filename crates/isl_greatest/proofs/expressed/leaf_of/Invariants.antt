use Rattle.std.proofs.Common.{◌≡◌}
use Rattle.isl_greatest.proofs.ExpressedLaws.{AreFirst}
use Rattle.isl_greatest.proofs.expressed.leaf_of.Given as goal

abbrev pub invariant-loop-column : goal.invariant-loop-column
invariant-loop-column l = AreFirst l.fn.meter l.front l.numbers l.column l.leaf × (l.meter ≡ l.fn.meter)
