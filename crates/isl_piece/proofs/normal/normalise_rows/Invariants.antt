use Rattle.std.proofs.Common.{◌≡◌, ◌≤◌, [], drop, take}
use Rattle.isl_piece.specs.Index.{IsIndexOf}
use Rattle.isl_piece.proofs.NormalLaws.{normal_from}
use Rattle.isl_piece.proofs.normal.normalise_rows.Given as goal

abbrev pub invariant-loop-at : goal.invariant-loop-at
invariant-loop-at l =
    (l.kept ≤ l.at) × (drop l.at l.rows ≡ drop l.at l.initial.rows)
    × (normal_from (take l.kept l.rows) (drop l.at l.rows) ≡ normal_from [] l.initial.rows)
    × IsIndexOf l.index (take l.kept l.rows)
