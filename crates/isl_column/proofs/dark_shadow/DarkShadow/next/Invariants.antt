use Rattle.std.proofs.Common.{◌+◌, length, unsigned_abs}
use Rattle.isl_shadows.specs.Splinters.{splinter_count}
use Rattle.isl_column.proofs.SplinterLemmas.{IsShadowSoFar}
use Rattle.isl_column.proofs.dark_shadow.DarkShadow.next.Given as goal

abbrev pub invariant-loop-tail : goal.invariant-loop-tail
invariant-loop-tail l = IsShadowSoFar l.fn.meter l.meter l.column.columns l.column.at l.fn.self l.self

abbrev pub decreases-loop-tail : goal.decreases-loop-tail
decreases-loop-tail l = unsigned_abs (splinter_count l.self.tails.items) + length l.self.tails.items
