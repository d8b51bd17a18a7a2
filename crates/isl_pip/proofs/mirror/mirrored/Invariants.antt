use Rattle.std.proofs.Common.{◌≡◌, map, take}
use Rattle.std.specs.List.{All}
use Rattle.isl_piece.specs.Row.{IsRowWithin}
use Rattle.isl_pip_law.specs.Mirror.{mirrored_row}
use Rattle.isl_pip.proofs.mirror.mirrored.Given as goal

abbrev pub invariant-loop-row : goal.invariant-loop-row
invariant-loop-row l = (l.rows ≡ map (mirrored_row l.front) (take l.row-index l.own)) × All (IsRowWithin l.fn.meter) l.rows
