use Rattle.std.proofs.Common.{◌≡◌, pos, arith}
use Rattle.std.specs.Prelude.{replicate}
use Rattle.isl_redundant.proofs.SumLaws.{sum_nothing}
use Rattle.isl_redundant.proofs.certificate.nothing.Goals as goal

pub returns : goal.returns
returns c = λ rows.
    let row = c.new.result in
    let zeros : row.coefs ≡ replicate c.args.columns (pos 0) = grind arith in
    let constant : row.constant ≡ pos 0 = grind arith in
    let k : row.k ≡ pos 1 = grind arith in
    sum_nothing c.args.columns rows row zeros constant k
