use Rattle.std.proofs.Common.{◌≡◌, refl, pos}
use Rattle.isl_frame.proofs.SumLaws.{sum_nothing}
use Rattle.isl_frame.proofs.sum.Sum.of_constant.Goals as goal

pub returns-clause-exact : goal.returns-clause-exact
returns-clause-exact c frame =
    let row = c.args.row.now in
    let constant = c.constant.ensures in
    let modulus = c.modulus.ensures in
    let made = c.new.ensures in
    let is : c.new.result ≡ record { kind = row.kind; coefs = c.in_ok-zeros.zeros; constant = row.constant; k = row.k } = cc in
    sum_nothing c.args.variables row frame c.in_ok-zeros.zeros (record { row = c.new.result; scale = pos 1 }) c.in_ok-zeros.ensures is refl
