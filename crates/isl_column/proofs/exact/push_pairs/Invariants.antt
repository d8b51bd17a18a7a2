use Rattle.std.proofs.Common.{◌≡◌, ◌*◌, length, map, take, pos}
use Rattle.isl_shadows.specs.Exact.{AreAdded, real_rows}
use Rattle.isl_omega.specs.Sides.{on_side}
use Rattle.isl_meter.specs.Gauge.{IsChargedUpTo}
use Rattle.isl_omega.specs.declared.sides.Side.TheVariants.{Lower}
use Rattle.isl_omega.specs.Units.{paid}
use Rattle.isl_column.proofs.exact.push_pairs.Given as goal

abbrev pub invariant-loop-row : goal.invariant-loop-row
invariant-loop-row l = record {
  added : AreAdded l.fn.meter l.column.at (real_rows l.column.at (on_side Lower l.column.at (take l.row-index l.rows)) (map (λ row. row.now) l.uppers)) l.fn.short l.short;
  charged : IsChargedUpTo (pos (length (on_side Lower l.column.at (take l.row-index l.rows)) * length l.uppers)) l.fn.meter l.meter;
  exact : l.meter ≡ paid (length (on_side Lower l.column.at (take l.row-index l.rows)) * length l.uppers) l.fn.meter;
}
