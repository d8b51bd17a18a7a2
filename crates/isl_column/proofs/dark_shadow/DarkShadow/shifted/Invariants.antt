use Rattle.std.proofs.Common.{◌≡◌, take, map}
use Rattle.std.specs.List.{All}
use Rattle.isl_piece.specs.Row.{IsRowWithin}
use Rattle.isl_shadows.specs.Splinters.{shifted_row}
use Rattle.isl_column.proofs.dark_shadow.DarkShadow.shifted.Given as goal

abbrev pub invariant-loop-upper : goal.invariant-loop-upper
invariant-loop-upper l = (l.rows ≡ map (shifted_row l.neighbours l.column.at) (take l.upper-index l.uppers)) × All (IsRowWithin l.fn.meter) l.rows × (l.meter ≡ l.fn.meter)
