use Rattle.std.proofs.Common.{◌≡◌, arith}
use Rattle.isl_presolve.specs.Fixed.{HoldAlike}
use Rattle.isl_presolve.specs.Shear.{AreSheared}
use Rattle.isl_presolve.proofs.FixedLaws.{reduction_alike, reduction_later}
use Rattle.isl_presolve.proofs.ShearLaws.{formed_sheared, reduction_found}
use Rattle.isl_presolve.proofs.shear.reduced.Goals as goal

pub returns-then-is_none-clause-exact : goal.returns-then-is_none-clause-exact
returns-then-is_none-clause-exact c =
    let g = c.args.meter.now in
    let columns = c.args.columns in
    let fixed = c.in-Some.fixed in
    let alike : HoldAlike g columns c.args.rows fixed = grind arith in
    (reduction_alike g columns c.args.rows fixed alike, grind arith)

pub returns-clause-exact : goal.returns-clause-exact
returns-clause-exact c =
    let g = c.args.meter.now in
    let columns = c.args.columns in
    let fixed = c.in-Some.fixed in
    let short = c.in_ok-short.short in
    let alike : HoldAlike g columns c.args.rows fixed = grind arith in
    let same : c.shortened.new.meter ≡ g = grind arith in
    let are : AreSheared g columns fixed short = grind arith in
    let e = c.in_ok-normalise.ensures in
    let found = c.in_ok-normalise.field-0 in (
      reduction_later g columns c.args.rows fixed found alike
          (reduction_found g columns fixed short found are e.points e.normal
          (e.shape columns (formed_sheared g columns fixed short are)) (rw same at e.within)),
      same,
    )
