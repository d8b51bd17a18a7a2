use Rattle.std.proofs.Common.{◌≡◌, take}
use Rattle.std.specs.List.{All}
use Rattle.isl_piece.specs.Row.{IsRowWithin}
use Rattle.isl_omega.specs.Equality.{short_images_of}
use Rattle.isl_omega.proofs.equality.images_without.Given as goal

abbrev pub invariant-loop-row : goal.invariant-loop-row
invariant-loop-row l = (l.short ≡ short_images_of l.fixed l.column.at (take l.row-index l.rows)) × All (IsRowWithin l.fn.meter) l.short × (l.meter ≡ l.fn.meter)
