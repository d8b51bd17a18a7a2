use Rattle.std.proofs.Common.{◌<◌, ◌∙◌, ap, arith, get_or, length, subst, sym, take, ◌+◌}
use Rattle.std.specs.List.{AllZip}
use Rattle.std.proofs.lemmas.List.{get_or_default}
use Rattle.std.proofs.lemmas.List.Elements.{all_zip_more}
use Rattle.isl_meter.specs.Gauge.{Gauge}
use Rattle.isl_meter.proofs.CutLemmas.{IsCharged_trans}
use Rattle.isl_piece.specs.declared.row.Row.{Row}
use Rattle.isl_span.specs.Forms.{IsExchanged}
use Rattle.isl_span.proofs.StepLaws.{one_before}
use Rattle.isl_span.proofs.forms.exchanged.Goals as goal

pub loop-i-preserved : goal.loop-i-preserved
loop-i-preserved c =
    let g = c.args.meter.now in
    let forms = c.args.forms.now in
    let at = c.args.at in
    let q = c.args.point.now in
    let n = length q in
    let i = c.loop-i.i in
    let other = c.index-forms-at.result in
    let form = c.index-forms-i.result in
    let new = c.in_ok-exchanged_form.field-0 in
    let inside : at < length forms = c.requires.inside in
    let low : i < length forms = omega (arith, inside) in
    let R : Row → Row → Type 0 = λ form left. (d : Row) → IsExchanged g n (get_or forms at d) q form left in
    let same = ap (λ (x : Gauge). x.bits) c.loop-i.invariant.charged.same in
    let here : R form new = λ d. subst (λ (o : Row). IsExchanged g n o q form new)
    (c.index-forms-at.is ∙ get_or_default forms at other d inside)
    (one_before g c.loop-i.meter n other q form new same c.in_ok-exchanged_form.ensures.exact) in
    record {
      each = subst (AllZip R (take (i + 1) forms)) (sym c.in_ok-push.ensures.ok)
          (all_zip_more R forms c.loop-i.left i form new low c.index-forms-i.is c.loop-i.invariant.each here);
      charged = IsCharged_trans g c.loop-i.meter c.exchanged_form.new.meter c.loop-i.invariant.charged c.in_ok-exchanged_form.ensures.meter;
    }
