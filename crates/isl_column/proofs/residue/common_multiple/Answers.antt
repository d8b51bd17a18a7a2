use Rattle.std.proofs.Common.{◌≡◌, ◌*ℤ◌, arith}
use Rattle.isl_shadows.proofs.CommonPeriods.{common_multiple_is}
use Rattle.isl_column.proofs.residue.common_multiple.Goals as goal

pub returns : goal.returns
returns c =
    let m = c.in_ok-multiple.multiple in
    let is : m ≡ c.args.a *ℤ c.floor_div-rest.result = grind arith in (
      common_multiple_is c.args.a c.args.b c.gcd.result c.floor_div-rest.result m c.requires.a_positive c.requires.b_positive c.gcd.ensures.value c.floor_div-rest.ensures.value is,
      grind arith,
      grind arith,
    )
