use Rattle.std.proofs.Common.{◌≡◌, map, take}
use Rattle.isl_omega.specs.Sides.{on_side}
use Rattle.isl_omega.specs.declared.sides.Side.TheVariants.{Upper}
use Rattle.isl_column.proofs.exact.uppers_of.Given as goal

abbrev pub invariant-loop-row : goal.invariant-loop-row
invariant-loop-row l = map (λ row. row.now) l.uppers.items ≡ on_side Upper l.column.at (take l.row-index l.rows)
