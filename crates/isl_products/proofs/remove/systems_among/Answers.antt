use Rattle.std.proofs.Common.{sym, ap, ◌∙◌, subst, arith, ◌+◌, ◌<◌, ◌≤◌, length, take}
use Rattle.std.proofs.lemmas.List.{take_all}
use Rattle.isl_space.specs.Space.{space_form_of}
use Rattle.isl_piece.specs.System.{IsSystemWithin}
use Rattle.isl_union.proofs.MeetSteps.{item_has}
use Rattle.isl_products.specs.declared.layout.Product.TheVariants.{Restrict}
use Rattle.isl_products.specs.Layout.{layout_view}
use Rattle.isl_products.specs.Made.{AreBeside}
use Rattle.isl_products.proofs.LayoutLaws.{forms_from, forms_none, layout_picks}
use Rattle.isl_products.proofs.RemoveLaws.{beside_more, beside_skip}
use Rattle.isl_products.proofs.remove.systems_among.Goals.{in-Some+in_ok-placed+in_ok-push+in-Set-1, in_default}
use Rattle.isl_products.proofs.remove.systems_among.Goals.{in-Some+in_ok-placed+in_ok-push+in-Map-1}
use Rattle.isl_products.proofs.remove.systems_among.Goals as goal

pub placed-requires-clause-pick : goal.placed-requires-clause-pick
placed-requires-clause-pick c =
    let a = c.args.piece.now.space in
    let b = c.other-item.result.space in
    let forms = forms_from (Restrict c.args.place) a b (space_form_of c.space.result.now) (space_form_of c.space-in-loop-other.result.now)
    c.in_ok-layout.field-0 c.in-Some.layout c.in_ok-layout.ensures c.in-Some.is c.space.ensures c.space-in-loop-other.ensures in
    (layout_picks (Restrict c.args.place) a b (layout_view c.in-Some.layout) forms).1

pub loop-other-preserved : goal.loop-other-preserved
loop-other-preserved c = λ g within.
    let params = c.args.params.now in
    let piece = c.args.piece.now in
    let others = c.args.others.now in
    let i = c.loop-other.other-index in
    let b = c.other-item.result in
    let low : i < length others = omega arith in
    let fits = item_has (λ p. IsSystemWithin g p.system) others i b low c.other-item.is within in
    let so_far = c.loop-other.invariant g within in
    let own = space_form_of c.space.result.now in
    let other = space_form_of c.space-in-loop-other.result.now in
    elim c.match-branch-2.branch [
      | in-Some+in_ok-placed+in_ok-push+in-Set-1 w ↦
          let l = w.in-Some.layout in
          let forms = forms_from (Restrict c.args.place) piece.space b.space own other c.in_ok-layout.field-0 l c.in_ok-layout.ensures
          w.in-Some.is c.space.ensures c.space-in-loop-other.ensures in
          beside_more g c.args.place params piece others b i c.loop-other.systems.items low c.other-item.is so_far (layout_view l)
          w.in_ok-placed.field-0 c.match-branch-2.systems.items forms (w.in_ok-placed.ensures g fits)
          (ap (λ v. v.items) w.systems-is ∙ w.in_ok-push.ensures.items)
      | in-Some+in_ok-placed+in_ok-push+in-Map-1 w ↦
          let l = w.in-Some.layout in
          let forms = forms_from (Restrict c.args.place) piece.space b.space own other c.in_ok-layout.field-0 l c.in_ok-layout.ensures
          w.in-Some.is c.space.ensures c.space-in-loop-other.ensures in
          beside_more g c.args.place params piece others b i c.loop-other.systems.items low c.other-item.is so_far (layout_view l)
          w.in_ok-placed.field-0 c.match-branch-2.systems.items forms (w.in_ok-placed.ensures g fits)
          (ap (λ v. v.items) w.systems-is ∙ w.in_ok-push.ensures.items)
      | in_default w ↦
          let none = forms_none (Restrict c.args.place) piece.space b.space own other c.in_ok-layout.field-0 c.in_ok-layout.ensures
          w.in_default.is c.space.ensures c.space-in-loop-other.ensures in
          subst (AreBeside g c.args.place params piece (take (i + 1) others)) (ap (λ v. v.items) (sym w.systems-is))
          (beside_skip g c.args.place params piece others b i c.loop-other.systems.items low c.other-item.is so_far none)
    ]

pub returns : goal.returns
returns c = λ g within.
    let end : length c.args.others.now ≤ c.loop-other.other-index = omega arith in
    subst (λ l. AreBeside g c.args.place c.args.params.now c.args.piece.now l c.loop-other.systems.items)
    (take_all c.loop-other.other-index c.args.others.now end) (c.loop-other.invariant g within)
