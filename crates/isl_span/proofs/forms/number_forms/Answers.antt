use Rattle.std.proofs.Common.{◌≡◌, ◌<◌, ◌≤◌, ◌^◌, ◌++◌, ◌∷◌, ◌∙◌, [], ap, ap₂, arith, get_or, length, of_z, pos, pow_mono, sym, subst, to_z}
use Rattle.std.specs.List.{All}
use Rattle.std.specs.Int.{w128}
use Rattle.std.proofs.lemmas.Grind.{common_steps}
use Rattle.std.proofs.lemmas.Int.{to_z-of_z}
use Rattle.std.proofs.lemmas.List.{get_or_default, take_all}
use Rattle.isl_span.specs.Forms.{number_row, number_rows, IsForm}
use Rattle.isl_span.proofs.StartLaws.{numbers_forms, numbers_more}
use Rattle.isl_span.proofs.forms.number_forms.Goals as goal

pub loop-column-preserved : goal.loop-column-preserved
loop-column-preserved c =
    let point = c.args.point.now in
    let n = length point in
    let i = c.loop-column.column in
    let z = get_or point i (pos 0) in
    let low : i < length point = omega arith in
    let read : to_z w128 (of_z w128 z) ≡ z = grind (arith, common_steps, to_z-of_z) in
    let row = c.in_ok-number_form.ensures ∙ ap (number_row n i) read in
    c.in_ok-push.ensures.ok ∙ ap₂ (λ l r. l ++ r ∷ []) c.loop-column.invariant row
    ∙ sym (numbers_more n point i z low (get_or_default point i z (pos 0) low))

pub returns-clause-forms : goal.returns-clause-forms
returns-clause-forms c =
    let g = c.args.meter.now in
    let point = c.args.point.now in
    let n = length point in
    let room : 2 ^ 8 ≤ 2 ^ g.bits = pow_mono c.limit-limit.ensures.bits_low in
    let end : length point ≤ c.loop-column.column = omega arith in
    let is = c.loop-column.invariant ∙ ap (number_rows n 0) (take_all c.loop-column.column point end) in
    subst (All (IsForm g n)) (sym is) (numbers_forms g (omega arith) n 0 point (omega arith) c.requires)
