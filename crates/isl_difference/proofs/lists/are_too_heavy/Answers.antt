use Rattle.std.proofs.Common.{◌≡◌, ◌+◌, ◌*◌, ◌/◌, ◌<◌, ℕ, arith, subst, sym}
use Rattle.isl_column.specs.Weight.{row_bytes}
use Rattle.isl_difference.proofs.WeightLaws.{bytes_counted}
use Rattle.isl_difference.proofs.lists.are_too_heavy.Goals as goal

pub returns : goal.returns
returns c =
    let columns = c.args.columns in
    let same = bytes_counted c.saturating_add.result (c.args.weight + c.args.weight / 2) columns
    (omega (arith, c.saturating_add.ensures)) in
    let one : c.saturating_add.result * 1 ≡ c.saturating_add.result = omega arith in (
      (λ h. same.0 (subst (λ (n : ℕ). 100663296 < n * row_bytes columns) one (c.are_too_many.ensures.0 h))),
      (λ h. c.are_too_many.ensures.1 (subst (λ (n : ℕ). 100663296 < n * row_bytes columns) (sym one) (same.1 h))),
    )
