use Rattle.std.proofs.Common.{◌≡◌, ◌≢◌, ◌<◌, arith, map}
use Rattle.std.specs.List.{All}
use Rattle.isl_piece.specs.Row.{IsRowWithin}
use Rattle.isl_presolve.specs.Shear.{sheared}
use Rattle.isl_presolve.proofs.ShearLaws.{sheared_next}
use Rattle.isl_presolve.proofs.shear.shortened.Goals as goal

pub loop-preserved : goal.loop-preserved
loop-preserved c =
    let g = c.args.meter.now in
    let columns = c.args.columns in
    let shear = c.in-Some.shear in
    let now = c.loop.rows in
    let new = c.in_ok-rows.rows in
    let from : shear.from < columns = grind arith in
    let to : shear.to < columns = grind arith in
    let apart : shear.from ≢ shear.to = grind arith in
    let is : new ≡ map (sheared shear.from shear.to shear.times) now = grind arith in
    let within : All (IsRowWithin g) new = grind arith in
    (sheared_next g columns shear.from shear.to shear.times c.args.rows now new from to apart c.loop.invariant.0 is within, grind arith)
