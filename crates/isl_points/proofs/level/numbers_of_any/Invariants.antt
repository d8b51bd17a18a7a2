use Rattle.std.proofs.Common.{[], ◌∷◌, ◌++◌, take}
use Rattle.isl_elim.specs.Elimination.{HoldsAtAny}
use Rattle.isl_points.proofs.PrefixLaws.{IsGathering}
use Rattle.isl_points.proofs.level.numbers_of_any.Given as goal

abbrev pub invariant-loop-system : goal.invariant-loop-system
invariant-loop-system l = IsGathering l.fn.meter l.meter
    (λ x. HoldsAtAny (take l.system-index l.systems) (l.prefix ++ x ∷ [])) l.found.items
