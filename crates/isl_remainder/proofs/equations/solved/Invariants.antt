use Rattle.std.proofs.Common.{◌≡◌}
use Rattle.isl_remainder.specs.Solved.{AreAlike}
use Rattle.isl_remainder.proofs.equations.solved.Given as goal

abbrev pub invariant-loop-at : goal.invariant-loop-at
invariant-loop-at l = record {
  alike : AreAlike l.fn.meter l.fn.system.rows l.rows;
  meter : l.meter ≡ l.fn.meter;
}
