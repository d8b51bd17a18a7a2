use Rattle.std.proofs.Common.{◌≡◌, take}
use Rattle.std.specs.List.{All, AllZip}
use Rattle.isl_piece.specs.Row.{IsRowWithin}
use Rattle.isl_omega.specs.Substitution.{IsMovedBound}
use Rattle.isl_omega.proofs.substitution.Substitution.bounds.Given as goal

abbrev pub invariant-loop-row : goal.invariant-loop-row
invariant-loop-row l = AllZip (IsMovedBound l.column.columns l.column.at l.self.scale l.self.offsets) (take l.row-index l.rows) l.moved × All (IsRowWithin l.fn.meter) l.moved × (l.meter ≡ l.fn.meter)
