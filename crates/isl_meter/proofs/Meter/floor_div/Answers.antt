use Rattle.std.proofs.Common.{to_z-of_z, FitsSigned}
use Rattle.std.specs.Int.{w128}
use Rattle.isl_math.proofs.DivideLaws.{IsFloor-from_floor_div}
use Rattle.isl_meter.proofs.Meter.floor_div.Goals as goal

pub returns-clause-floor : goal.returns-clause-floor
returns-clause-floor c =
    let a_fits = c.ranges.a in
    let k_fits = c.ranges.k in
    let fits : FitsSigned w128 c.div_euclid.result = record { sfits = c.div_euclid.type_inv } in
    let is = simp to_z-of_z at c.div_euclid.ensures in
    simp to_z-of_z (IsFloor-from_floor_div c.args.a c.args.k c.div_euclid.result c.requires.divisor is)
