use Rattle.std.proofs.Common.{◌≡◌, ◌∙◌, ◌+◌, ◌*◌, length, arith}
use Rattle.isl_difference.specs.Weight.{counted}
use Rattle.isl_difference.proofs.WeightLaws.{counted_times, heavy_counted}
use Rattle.isl_difference.proofs.lists.are_too_many.Goals as goal

pub returns : goal.returns
returns c =
    let count = c.args.count in
    let one = length c.args.system.now.rows + 1 in
    let of_one : c.saturating_add-of_one.result ≡ counted one
    = let e = c.len.ensures in omega (arith, e, c.saturating_add-of_one.ensures) in
    let same = heavy_counted c.saturating_mul.result (count * one) c.args.system.now.columns
    (c.saturating_mul.ensures ∙ counted_times c.saturating_add-of_one.result count one of_one) in
    ((λ h. same.0 (c.are_too_heavy.ensures.0 h)), (λ h. c.are_too_heavy.ensures.1 (same.1 h)))
