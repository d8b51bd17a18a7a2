use Rattle.std.proofs.Common.{◌≡◌, ℤ, List, take}
use Rattle.isl_points.specs.Flat.{laid_out}
use Rattle.isl_points.specs.Level.{AreLonger}
use Rattle.isl_points.proofs.level.all_longer.Given as goal

abbrev pub invariant-loop-place : goal.invariant-loop-place
invariant-loop-place l =
    (lists : List (List ℤ)) × AreLonger l.fn.meter l.meter l.systems (take l.place l.shorter) lists × (l.numbers.items ≡ laid_out lists)
