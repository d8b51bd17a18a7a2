use Rattle.std.proofs.Common.{◌≡◌, ◌<◌, [], length, take}
use Rattle.isl_omega.specs.Congruence.{AreMergedTo}
use Rattle.isl_omega.proofs.congruence.merged.Given as goal

abbrev pub invariant-loop-i : goal.invariant-loop-i
invariant-loop-i l = AreMergedTo l.fn.meter l.column.columns l.column.at (take l.i l.rows) l.one l.others × (l.meter ≡ l.fn.meter) × (length l.rows < 2 → l.others ≡ [])
