use Rattle.std.proofs.Common.{◌≡◌, map, take}
use Rattle.isl_calls.specs.CoverRows.{rows_of}
use Rattle.isl_calls.proofs.cover_rows.cover_of.Given as goal

abbrev pub invariant-loop-system : goal.invariant-loop-system
invariant-loop-system l = l.cover ≡ map rows_of (take l.system-index l.systems)
