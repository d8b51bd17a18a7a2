use Rattle.std.proofs.Common.{◌≡◌, take}
use Rattle.isl_calls.specs.CoverRows.{covers_of}
use Rattle.isl_calls.proofs.cover_rows.covers_of.Given as goal

abbrev pub invariant-loop-height : goal.invariant-loop-height
invariant-loop-height l = l.made.items ≡ covers_of (take l.height l.covers)
