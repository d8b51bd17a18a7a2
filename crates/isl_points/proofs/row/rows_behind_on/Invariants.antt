use Rattle.std.proofs.Common.{◌≡◌, length, map, take}
use Rattle.std.specs.List.{All}
use Rattle.isl_meter.specs.Gauge.{IsWithin}
use Rattle.isl_piece.specs.declared.row.Row.{Row}
use Rattle.isl_tower.specs.Numbers.{row_at}
use Rattle.isl_points.specs.Shorn.{rows_on}
use Rattle.isl_points.proofs.row.rows_behind_on.Given as goal

abbrev pub invariant-loop-row : goal.invariant-loop-row
invariant-loop-row l = (l.kept.items ≡ map (row_at l.numbers) (rows_on (length l.numbers) (take l.row-index l.rows)))
    × All (λ (r : Row). IsWithin l.fn.meter r.constant) l.kept.items × (l.meter ≡ l.fn.meter)
