use Rattle.isl_redundant.specs.Redundant.{IsSumOf}
use Rattle.isl_redundant.proofs.KeptLaws.{removed_behind}
use Rattle.isl_redundant.proofs.SumLaws.{nowhere_by}
use Rattle.isl_redundant.proofs.certificate.are_contradictory.Goals as goal

pub returns : goal.returns
returns c = λ t point h.
    let rows = c.args.rows.now in
    let sum = c.in-Some.sum in
    let of_others = rw c.in-Some.is at c.in_ok-sum.ensures in
    let of_all : IsSumOf c.args.columns rows sum = rw (removed_behind rows) at of_others in
    let below = c.is_below_zero.ensures t in
    nowhere_by c.args.columns rows sum of_all below.0 below.1 point h
