use Rattle.std.proofs.Common.{◌≡◌, map, take}
use Rattle.std.specs.List.{All}
use Rattle.isl_piece.specs.Row.{IsRowWithin}
use Rattle.isl_presolve.specs.Shear.{sheared}
use Rattle.isl_presolve.proofs.shear.sheared_rows.Given as goal

abbrev pub invariant-loop-row : goal.invariant-loop-row
invariant-loop-row l = (l.new ≡ map (sheared l.shear.from l.shear.to l.shear.times) (take l.row-index l.rows)) × All (IsRowWithin l.fn.meter) l.new × (l.meter ≡ l.fn.meter)
