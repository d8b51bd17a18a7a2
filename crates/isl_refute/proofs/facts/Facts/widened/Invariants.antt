use Rattle.std.proofs.Common.{◌≡◌, map, take}
use Rattle.isl_piece.specs.System.{widened}
use Rattle.isl_refute.proofs.facts.Facts.widened.Given as goal

abbrev pub invariant-loop-row : goal.invariant-loop-row
invariant-loop-row l = l.rows ≡ map widened (take l.row-index l.self.rows)
