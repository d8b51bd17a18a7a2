use Rattle.std.proofs.Common.{drop}
use Rattle.isl_text.proofs.SameNames.{IsAlong}
use Rattle.isl_text.proofs.formed.are_new.Given as goal

abbrev pub invariant-loop-entry : goal.invariant-loop-entry
invariant-loop-entry l = IsAlong l.params.keys l.fn.own.keys l.own.keys l.entries (drop l.entry-index l.entries)
