use Rattle.std.proofs.Common.{◌≡◌, ◌≤ℤ◌, ◌<ℤ◌, arith, pos, ℤ}
use Rattle.isl_math.specs.Divide.{floor_mod}
use Rattle.isl_math.proofs.DivideLaws.{floor_mod_bounds}
use Rattle.isl_math.proofs.Ring.{linear}
use Rattle.isl_points.proofs.division.remainder.Goals as goal

pub returns-then-eq-clause-value : goal.returns-then-eq-clause-value
returns-then-eq-clause-value c =
    let one : c.args.k ≡ pos 1 = grind arith in
    rw one (by (floor_mod c.args.number (pos 1)) (floor_mod_bounds c.args.number (pos 1) (omega (arith, linear))))
  where
    by : (m : ℤ) → (pos 0 ≤ℤ m) × (m <ℤ pos 1) → pos 0 ≡ m
    by m h = let low = h.0 in let high = h.1 in omega (arith, linear)
