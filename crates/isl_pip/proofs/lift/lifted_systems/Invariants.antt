use Rattle.std.proofs.Common.{◌≡◌, take}
use Rattle.isl_pip.specs.Lift.{AreLiftedSystems}
use Rattle.isl_pip.proofs.lift.lifted_systems.Given as goal

abbrev pub invariant-loop-system : goal.invariant-loop-system
invariant-loop-system l =
    AreLiftedSystems l.fn.meter l.columns l.column l.anchor (take l.system-index l.systems) l.made.items × (l.meter ≡ l.fn.meter)
