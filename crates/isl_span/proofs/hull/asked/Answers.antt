use Rattle.std.proofs.Common.{◌≡◌, ◌<◌, ◌∙◌, ap, get_or, length, subst, sym, take, List, ℤ}
use Rattle.std.specs.List.{All}
use Rattle.std.proofs.lemmas.List.{get_or_default}
use Rattle.std.proofs.lemmas.Result.{IfOk-weaker}
use Rattle.isl_meter.specs.Gauge.{Gauge}
use Rattle.isl_piece.specs.declared.row.Row.{Row}
use Rattle.isl_span.specs.Forms.{AreExchanged, AreToldApart}
use Rattle.isl_span.specs.Points.{AreFormsFor, IsPoint}
use Rattle.isl_span.proofs.StepLaws.{apart_forms, exchanged_before, goes, stays}
use Rattle.isl_span.proofs.hull.asked.Goals as goal

pub exchanged-requires-clause-apart : goal.exchanged-requires-clause-apart
exchanged-requires-clause-apart c =
    let n = c.args.columns in
    let forms = c.args.forms in
    let at = c.args.at in
    let h = c.index-as_slice-at.result in
    let low : at < length forms = c.requires.inside in
    let here : get_or forms at h ≡ h = sym (c.index-as_slice-at.is ∙ ap (λ (l : List Row). get_or l at h) c.as_slice.ensures) in
    let apart = apart_forms c.args.meter.now n (IsPoint n c.args.systems.now) forms at low h here c.requires.forms in
    subst (λ (l : List Row). (d : Row) → All (λ form. AreToldApart form (get_or l at d)) (take at l)) (sym c.as_slice-in-Some.ensures)
    (λ d. subst (λ (o : Row). All (λ form. AreToldApart form o) (take at forms)) (sym (get_or_default forms at d h low ∙ here)) apart)

pub returns-in-None-clause-forms : goal.returns-in-None-clause-forms
returns-in-None-clause-forms c =
    let n = c.args.columns in
    let forms = c.args.forms in
    let at = c.args.at in
    let h = c.index-as_slice-at.result in
    let here : get_or forms at h ≡ h = sym (c.index-as_slice-at.is ∙ ap (λ (l : List Row). get_or l at h) c.as_slice.ensures) in
    let exact = rw c.in-None.is at c.in_ok-point_off.ensures.exact in
    stays c.args.meter.now n (IsPoint n c.args.systems.now) forms at c.requires.inside h here c.requires.forms exact

pub returns-in-Some-clause-forms : goal.returns-in-Some-clause-forms
returns-in-Some-clause-forms c =
    let g = c.args.meter.now in
    let n = c.args.columns in
    let P : List ℤ → Type 0 = IsPoint n c.args.systems.now in
    let forms = c.args.forms in
    let at = c.args.at in
    let h = c.index-as_slice-at.result in
    let here : get_or forms at h ≡ h = sym (c.index-as_slice-at.is ∙ ap (λ (l : List Row). get_or l at h) c.as_slice.ensures) in
    let exact = rw c.in-Some.is at c.in_ok-point_off.ensures.exact in
    let q = c.in-Some.point.items in
    let later = c.point_off.new.meter in
    let same = ap (λ (x : Gauge). x.bits) c.in_ok-point_off.ensures.meter.same in
    IfOk-weaker c.exchanged.result (AreExchanged later (length q) at q forms) (AreFormsFor g n P at)
    (λ new e. goes g n P forms at c.requires.inside h here c.requires.forms q (record { long = exact.width; holds = exact.holds.0 })
    exact.holds.1 new
    (exchanged_before g later n (length q) at q forms new same exact.width e))
    (rw (c.as_slice-in-Some.ensures, c.as_slice-in-Some-2.ensures.value) at c.exchanged.ensures.exact)
