use Rattle.std.proofs.Common.{◌≡◌, take, map}
use Rattle.std.specs.List.{All}
use Rattle.isl_piece.specs.Row.{IsRowWithin}
use Rattle.isl_omega.specs.Substitution.{substituted}
use Rattle.isl_omega.proofs.substitution.Substitution.rows.Given as goal

abbrev pub invariant-loop-row : goal.invariant-loop-row
invariant-loop-row l = (l.moved ≡ map (substituted l.self.scale l.self.offsets l.column.at) (take l.row-index l.rows)) × All (IsRowWithin l.fn.meter) l.moved × (l.meter ≡ l.fn.meter)
