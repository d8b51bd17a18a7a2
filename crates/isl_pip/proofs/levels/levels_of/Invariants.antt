use Rattle.std.proofs.Common.{◌≡◌, length}
use Rattle.isl_pip.specs.Levels.{AreLevelsOf}
use Rattle.isl_pip.proofs.levels.levels_of.Given as goal

abbrev pub invariant-loop-depth : goal.invariant-loop-depth
invariant-loop-depth l =
    (AreLevelsOf l.fn.meter l.front l.towers l.levels.items × (length l.levels.items ≡ l.depth)) × (l.meter ≡ l.fn.meter)
