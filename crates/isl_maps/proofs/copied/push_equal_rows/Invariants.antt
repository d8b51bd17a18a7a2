use Rattle.std.proofs.Common.{◌≡◌}
use Rattle.isl_maps.specs.Copied.{with_equal_rows}
use Rattle.isl_maps.proofs.copied.push_equal_rows.Given as goal

abbrev pub invariant-loop-offset : goal.invariant-loop-offset
invariant-loop-offset l = l.system ≡ with_equal_rows l.first l.second l.offset l.initial.system
