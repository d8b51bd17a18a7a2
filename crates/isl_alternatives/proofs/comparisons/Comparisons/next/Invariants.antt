use Rattle.std.proofs.Common.{◌≡◌, ◌+◌, length}
use Rattle.isl_alternatives.specs.Ahead.{ahead_of}
use Rattle.isl_alternatives.specs.Chain.{turns_ahead}
use Rattle.isl_alternatives.proofs.comparisons.Comparisons.next.Given as goal

abbrev pub invariant-loop-self : goal.invariant-loop-self
invariant-loop-self l = ahead_of l.self ≡ ahead_of l.fn.self

abbrev pub decreases-loop-self : goal.decreases-loop-self
decreases-loop-self l = length l.self.lefts.now + turns_ahead l.self.links.now
