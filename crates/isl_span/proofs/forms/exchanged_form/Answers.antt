use Rattle.std.proofs.Common.{◌≡◌, ◌∙◌, ap, ap₂, arith, length, neg_ℤ, pos, subst, sym}
use Rattle.std.proofs.lemmas.Grind.{common_steps}
use Rattle.isl_meter.specs.Gauge.{Gauge}
use Rattle.isl_piece.specs.declared.row.Row.{Row}
use Rattle.isl_piece.specs.Combine.{combination}
use Rattle.isl_piece.specs.Normal.{Kept, normal_row}
use Rattle.isl_piece.specs.Row.{IsRowWithin}
use Rattle.isl_span.specs.Forms.{IsContingentForm, IsExchanged}
use Rattle.isl_span.proofs.FormLaws.{same_multiple, sum_contingent, sum_exchanged}
use Rattle.isl_span.proofs.forms.exchanged_form.Goals as goal

pub returns-then-is_zero-clause-exact : goal.returns-then-is_zero-clause-exact
returns-then-is_zero-clause-exact c =
    let q = c.args.point.now in
    let form = c.args.form.now in
    let other = c.args.other.now in
    let zero : c.in_ok-height.height ≡ pos 0 = grind (arith, common_steps) in
    subst (IsExchanged c.args.meter.now (length q) other q form) (sym c.in_ok-copy.ensures) (record {
      made = c.requires.form;
      multiple = same_multiple form other q (λ e. c.requires.nonzero (c.requires.value ∙ e)) (sym c.in_ok-height.ensures.0 ∙ zero);
    })

pub divided-requires-clause-contingent : goal.divided-requires-clause-contingent
divided-requires-clause-contingent c =
    let q = c.args.point.now in
    let form = c.args.form.now in
    let other = c.args.other.now in
    let is = c.in_ok-sum.ensures.exact.0.0
    ∙ ap₂ (λ m k. combination m form k other) c.requires.value (c.neg.ensures.value ∙ ap neg_ℤ c.in_ok-height.ensures.0) in
    subst IsContingentForm (sym is)
    (sum_contingent form other q c.args.meter.now (length q) c.requires.form c.requires.other
    (λ e. c.requires.nonzero (c.requires.value ∙ e)) c.requires.apart)

pub returns-clause-exact : goal.returns-clause-exact
returns-clause-exact c =
    let q = c.args.point.now in
    let g = c.args.meter.now in
    let form = c.args.form.now in
    let other = c.args.other.now in
    let is = c.in_ok-sum.ensures.exact.0.0
    ∙ ap₂ (λ m k. combination m form k other) c.requires.value (c.neg.ensures.value ∙ ap neg_ℤ c.in_ok-height.ensures.0) in
    let within = subst (IsRowWithin g) is
    (subst (λ (m : Gauge). IsRowWithin m c.in_ok-sum.sum) c.in_ok-height.ensures.2 c.in_ok-sum.ensures.exact.0.1) in
    sum_exchanged form other q g (length q) c.requires.form c.requires.other (λ e. c.requires.nonzero (c.requires.value ∙ e))
    c.requires.apart
    within c.divided.result (subst (λ (r : Row). normal_row r ≡ Kept c.divided.result) is c.divided.ensures)
