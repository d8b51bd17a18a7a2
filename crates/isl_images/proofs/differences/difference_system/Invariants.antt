use Rattle.std.proofs.Common.{◌≡◌, map}
use Rattle.std.specs.List.{range_with_len}
use Rattle.isl_images.specs.Differences.{difference_row}
use Rattle.isl_images.proofs.differences.difference_system.Given as goal

abbrev pub invariant-loop-place : goal.invariant-loop-place
invariant-loop-place l = l.rows ≡ map (difference_row l.parameters l.width) (range_with_len 0 l.place)
