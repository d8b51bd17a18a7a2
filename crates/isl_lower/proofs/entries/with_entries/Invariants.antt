use Rattle.std.proofs.Common.{◌≡◌}
use Rattle.isl_lower.proofs.EntryLaws.{IsSoFar}
use Rattle.isl_lower.proofs.entries.with_entries.Given as goal

abbrev pub invariant-loop-at : goal.invariant-loop-at
invariant-loop-at l = record {
  so_far : IsSoFar l.fn.meter l.scope l.fn.system l.made l.entries l.first l.at;
  meter : l.meter ≡ l.fn.meter;
}
