use Rattle.std.proofs.Common.{◌≡◌, ◌+◌, ◌≤◌, drop}
use Rattle.isl_text.specs.Bound.{in_entries, capped}
use Rattle.isl_text.proofs.bound.in_entries.Given as goal

abbrev pub invariant-loop-entry : goal.invariant-loop-entry
invariant-loop-entry l = record {
  same : capped (in_entries l.entries) ≡ capped (l.total + in_entries (drop l.entry-index l.entries));
  within : l.total ≤ 65;
}
