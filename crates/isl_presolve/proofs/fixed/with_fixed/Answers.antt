use Rattle.std.proofs.Common.{◌≡◌, ◌++◌, arith}
use Rattle.isl_presolve.specs.Fixed.{AreFixed}
use Rattle.isl_presolve.proofs.FixedLaws.{alike_found, formed_all}
use Rattle.isl_presolve.proofs.fixed.with_fixed.Goals as goal

pub returns-clause-exact : goal.returns-clause-exact
returns-clause-exact c =
    let g = c.args.meter.now in
    let columns = c.args.columns in
    let rows = c.args.rows in
    let more = c.in-Some.found in
    let all = c.append.new.self in
    let joined : all ≡ rows ++ more = grind arith in
    let same : c.fixed_rows.new.meter ≡ g = grind arith in
    let fixed : AreFixed g columns rows more = grind arith in
    let e = c.in_ok-normalise.ensures in
    let formed = formed_all g columns rows more all joined c.requires.rows fixed in (
      alike_found g columns rows more all c.in_ok-normalise.field-0 joined fixed e.points e.normal (e.shape columns formed) (rw same at e.within),
      same,
    )
