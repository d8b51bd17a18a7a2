use Rattle.std.proofs.Common.{◌≡◌, take, map}
use Rattle.isl_shadows.specs.Mirror.{mirrored_row}
use Rattle.isl_column.proofs.mirror.mirrored_rows.Given as goal

abbrev pub invariant-loop-row : goal.invariant-loop-row
invariant-loop-row l = l.new ≡ map (mirrored_row l.column.at) (take l.row-index l.rows)
