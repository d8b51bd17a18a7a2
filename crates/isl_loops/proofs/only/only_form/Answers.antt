use Rattle.std.proofs.Common.{◌≡◌, ◌∙◌, ◌+◌, refl, sym, subst, pos, negsuc, List}
use Rattle.isl_frame.specs.Needed.{AreRowsOver}
use Rattle.isl_piece.specs.declared.row.RowKind.TheVariants.{AtLeast}
use Rattle.isl_piece.specs.declared.row.Row.{Row}
use Rattle.isl_piece.specs.Row.{coef_at}
use Rattle.isl_loops.specs.Shared.{IsOnlyForm}
use Rattle.isl_loops.proofs.OnlyLaws.{only_form}
use Rattle.isl_loops.proofs.only.only_form.Goals as goal

pub returns-then-has_same_form : goal.returns-then-has_same_form
returns-then-has_same_form c =
    let g = c.args.meter.now in
    let n = c.args.variables in
    let rows = c.as_slice.result.now in
    let low = c.low-item.result in
    let high = c.high-item.result in
    let first : (low.kind ≡ AtLeast) × (coef_at low n ≡ pos 1) = c.if-not-is_bound_by.ensures refl in
    let second = c.if-not-is_bound_by-2.ensures refl in
    let bound : (high.kind ≡ AtLeast) × (coef_at high n ≡ negsuc 0) = (second.0, second.1 ∙ c.new.ensures) in
    let over : AreRowsOver g (n + 1) rows = subst (AreRowsOver g (n + 1)) (sym c.as_slice.ensures) c.requires in
    subst (λ (rs : List Row). IsOnlyForm g n rs c.in_ok-entry.entry) c.as_slice.ensures
    (only_form g n rows low high c.in_ok-entry.entry c.in_ok-other.other over c.in-len2.len_at_least c.low-item.is c.high-item.is first bound
    c.in_ok-entry.ensures.exact c.in_ok-other.ensures.exact (c.if-has_same_form.ensures refl) c.in_ok-entry.ensures.within)
