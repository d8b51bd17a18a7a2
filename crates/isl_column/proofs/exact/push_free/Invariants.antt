use Rattle.std.proofs.Common.{take}
use Rattle.isl_shadows.specs.Exact.{AreAdded}
use Rattle.isl_omega.specs.Sides.{on_side}
use Rattle.isl_omega.specs.declared.sides.Side.TheVariants.{Free}
use Rattle.isl_column.proofs.exact.push_free.Given as goal

abbrev pub invariant-loop-row : goal.invariant-loop-row
invariant-loop-row l = AreAdded l.meter l.column.at (on_side Free l.column.at (take l.row-index l.rows)) l.fn.short l.short
