use Rattle.std.proofs.Common.{◌≡◌, ◌++◌, take}
use Rattle.std.specs.List.{All}
use Rattle.isl_piece.specs.System.{free_columns}
use Rattle.isl_omega.specs.Column.{IsProper}
use Rattle.isl_elim.specs.Opened.{definition_rows, only_from}
use Rattle.isl_elim.proofs.opened.opened_rows.Given as goal

abbrev pub invariant-loop-i : goal.invariant-loop-i
invariant-loop-i l =
    (l.rows ≡ l.system.rows ++ definition_rows l.system.columns (only_from (free_columns l.system) l.cols (take l.i l.system.definitions))) ×
    All (IsProper l.fn.meter l.system.columns) l.rows ×
    (l.meter ≡ l.fn.meter)
