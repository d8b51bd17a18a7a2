use Rattle.std.proofs.Common.{◌≡◌, take}
use Rattle.isl_nest.proofs.SidesLaws.{AreSidesOf}
use Rattle.isl_nest.proofs.sides.Sides.of.Given as goal

abbrev pub invariant-loop-system : goal.invariant-loop-system
invariant-loop-system l =
    AreSidesOf l.fn.meter l.place l.own (take l.system-index l.systems) l.lows.items l.highs.items × (l.meter ≡ l.fn.meter)
