use Rattle.std.proofs.Common.{◌≡◌, ◌++◌, take}
use Rattle.std.specs.List.{All}
use Rattle.isl_omega.specs.Column.{IsProper}
use Rattle.isl_elim.specs.Opened.{definition_rows}
use Rattle.isl_elim.proofs.opened.all_opened.Given as goal

abbrev pub invariant-loop-definition : goal.invariant-loop-definition
invariant-loop-definition l =
    (l.rows ≡ l.system.rows ++ definition_rows l.system.columns (take l.definition-index l.system.definitions)) ×
    All (IsProper l.fn.meter l.system.columns) l.rows ×
    (l.meter ≡ l.fn.meter)
