use Rattle.std.proofs.Common.{◌≡◌, ap, sym, ◌∙◌, subst, refl, length}
use Rattle.std.proofs.lemmas.Bool.{false≢true}
use Rattle.std.proofs.lemmas.Result.{IfOk-weaker, MatchResult-weaker}
use Rattle.isl_meter.proofs.CutLemmas.{IsCharged-unit, IsCutBy-after}
use Rattle.isl_space.specs.Form.{width_of}
use Rattle.isl_space.specs.Shape.{form_of}
use Rattle.isl_space.specs.Space.{space_form_of}
use Rattle.isl_space.specs.SpaceForm.{map_of, set_of}
use Rattle.isl_space.specs.Valuation.{Valuation}
use Rattle.isl_space.specs.declared.shape.Shape.{Shape}
use Rattle.isl_piece.specs.System.{IsSystemWithin}
use Rattle.isl_union.proofs.MeetSteps.{bits_after_unit}
use Rattle.isl_relation.specs.Maps.{ApplyHas}
use Rattle.isl_relation.specs.Together.{is_domain}
use Rattle.isl_relation.proofs.TogetherLaws.{apart_free, not_domain, unit_pays}
use Rattle.isl_images.specs.Made.{elements_of, ArePiecesOf}
use Rattle.isl_images.specs.Shadow.{IsShadow}
use Rattle.isl_images.specs.Shift.{IsOfBoth}
use Rattle.isl_images.proofs.MadeLaws.{of_before, of_same}
use Rattle.isl_images.proofs.PairingLaws.{apply_same}
use Rattle.isl_images.proofs.pairing.applied.Goals as goal

pub pieces_without-requires-clause-within : goal.pieces_without-requires-clause-within
pieces_without-requires-clause-within c =
    let g = c.args.meter.now in
    let h = c.unit.new.self in
    let first = bits_after_unit g h c.args.set.now.system c.in_ok-unit.ensures.1 c.requires.set_within in
    let second = bits_after_unit g h c.args.map.now.system c.in_ok-unit.ensures.1 c.requires.map_within in
    (c.in_ok-both.ensures h (subst (IsSystemWithin h) (sym c.system.ensures) first)
    (subst (IsSystemWithin h) (sym c.system-2.ensures) second)).within

pub returns-clause-made : goal.returns-clause-made
returns-clause-made c =
    let g = c.args.meter.now in
    let h = c.unit.new.self in
    let params = c.args.params.now in
    let p = c.args.map.now in
    let q = c.args.set.now in
    let x = form_of c.in-Map-Set.from.value in
    let y = form_of c.in-Map-Set.to.value in
    let both = c.in_ok-both.both in
    let same : x ≡ form_of c.in-Map-Set.shape.value =
    ap form_of (sym c.deref.ensures) ∙ c.if-not-same.ensures.0 refl ∙ ap form_of c.deref-2.ensures in
    let map_lies : p.space ≡ map_of x y = sym c.space.ensures ∙ ap space_form_of c.in-Map-Set.is-0 in
    let set_lies : q.space ≡ set_of x = sym c.space-2.ensures ∙ ap space_form_of c.in-Map-Set.is-1 ∙ ap set_of (sym same) in
    let of : IsOfBoth g q.system p.system (length params) 0 both =
    rw (c.system.ensures, c.system-2.ensures, c.len.ensures.len) at
    (c.in_ok-both.ensures g (subst (IsSystemWithin g) (sym c.system.ensures) c.requires.set_within)
    (subst (IsSystemWithin g) (sym c.system-2.ensures) c.requires.map_within)) in
    let form : form_of c.in_ok-clone.field-0.value ≡ y = ap form_of c.in_ok-clone.ensures.cases in
    let width : c.width.result ≡ width_of x = c.width.ensures ∙ ap (λ (s : Shape). width_of (form_of s)) c.deref-3.ensures in
    let told = rw (form, width) at c.pieces_without.ensures.made in
    let shadow = IsShadow params (set_of y) both (record { from = 0; count = width_of x }) in
    let Applied = λ (v : Valuation). ApplyHas (elements_of params p v) (elements_of params q v) in
    IfOk-weaker c.pieces_without.result
    (λ made. ArePiecesOf h params ⊥ shadow made.items)
    (λ made. ArePiecesOf g params ⊥ Applied made.items)
    (λ made are. of_same g params ⊥ ⊥ shadow Applied made.items
    (λ never. never)
    (λ v e. apply_same g params p q x y map_lies set_lies c.requires.map c.requires.set both of v e)
    (of_before g h params ⊥ shadow made.items (IsCharged-unit g h c.in_ok-unit.ensures.1) are))
    told

pub returns-then-not-same-clause-units : goal.returns-then-not-same-clause-units
returns-then-not-same-clause-units c =
    let x = form_of c.in-Map-Set.from.value in
    let y = form_of c.in-Map-Set.to.value in
    let z = form_of c.in-Map-Set.shape.value in
    let differ : ¬ (x ≡ z) =
    λ e. false≢true (c.if-not-same.ensures.1 (ap form_of c.deref.ensures ∙ e ∙ ap form_of (sym c.deref-2.ensures))) in
    apart_free is_domain c.args.map.now.space c.args.set.now.space c.args.meter.now
    (not_domain c.args.map.now.space c.args.set.now.space x y z (sym c.space.ensures ∙ ap space_form_of c.in-Map-Set.is-0)
    (sym c.space-2.ensures ∙ ap space_form_of c.in-Map-Set.is-1) differ)

pub returns-clause-units : goal.returns-clause-units
returns-clause-units c =
    let g = c.args.meter.now in
    let h = c.unit.new.self in
    let k = c.pieces_without.new.meter in
    let e = c.in_ok-unit.ensures.1 in
    MatchResult-weaker c.pieces_without.result c.pieces_without.ensures.meter
    (λ made p. unit_pays is_domain c.args.map.now.space c.args.set.now.space g h k e p)
    (λ cut p. IsCutBy-after g h k cut (IsCharged-unit g h e) p)
