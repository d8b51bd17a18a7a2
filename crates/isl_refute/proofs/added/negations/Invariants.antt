use Rattle.std.proofs.Common.{◌≡◌, take}
use Rattle.std.specs.List.{All}
use Rattle.isl_piece.specs.Row.{IsRowWithin}
use Rattle.isl_refute.specs.Refutes.{negations}
use Rattle.isl_refute.proofs.added.negations.Given as goal

abbrev pub invariant-loop-row : goal.invariant-loop-row
invariant-loop-row l =
    (l.made ≡ negations l.columns (take l.row-index l.rows)) × All (IsRowWithin l.fn.meter) l.made × (l.meter ≡ l.fn.meter)
