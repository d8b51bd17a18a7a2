use Rattle.std.proofs.Common.{◌≡◌, ◌++◌, pos, ◌+ℤ◌}
use Rattle.std.specs.List.{All}
use Rattle.isl_piece.specs.Row.{IsRowWithin}
use Rattle.isl_elim.specs.Narrow.{remainders_out}
use Rattle.isl_elim.proofs.narrow.push_remainders.Given as goal

abbrev pub invariant-loop-made : goal.invariant-loop-made
invariant-loop-made l =
    (l.constant ≡ l.row.constant +ℤ pos l._made)
    × (l.rows ≡ l.fn.rows ++ remainders_out l.fn.column.at l.row l._made)
    × All (IsRowWithin l.fn.meter) (remainders_out l.fn.column.at l.row l._made)
    × (l.meter ≡ l.fn.meter)
