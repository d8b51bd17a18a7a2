use Rattle.std.proofs.Common.{◌≡◌, drop}
use Rattle.isl_lower.specs.Names.{names_behind}
use Rattle.isl_lower.proofs.names.push_entries.Given as goal

abbrev pub invariant-loop-entry : goal.invariant-loop-entry
invariant-loop-entry l = names_behind l.fn.scope l.entries ≡ names_behind l.scope (drop l.entry-index l.entries)
