use Rattle.std.proofs.Common.{◌≡◌, ap, sym, ◌∙◌, subst, refl, length}
use Rattle.std.proofs.lemmas.Bool.{false≢true}
use Rattle.std.proofs.lemmas.Result.{IfOk-weaker, MatchResult-weaker}
use Rattle.isl_meter.proofs.CutLemmas.{IsCharged-unit, IsCutBy-after}
use Rattle.isl_space.specs.Form.{Form, width_of}
use Rattle.isl_space.specs.Shape.{form_of}
use Rattle.isl_space.specs.Space.{space_form_of}
use Rattle.isl_space.specs.SpaceForm.{map_of}
use Rattle.isl_space.specs.Valuation.{Valuation}
use Rattle.isl_space.specs.declared.shape.Shape.{Shape}
use Rattle.isl_piece.specs.System.{IsSystemWithin}
use Rattle.isl_union.proofs.MeetSteps.{bits_after_unit}
use Rattle.isl_relation.specs.Maps.{JoinHas}
use Rattle.isl_relation.specs.Together.{are_linked}
use Rattle.isl_relation.proofs.TogetherLaws.{apart_free, not_linked, unit_pays}
use Rattle.isl_images.specs.Made.{elements_of, ArePiecesOf}
use Rattle.isl_images.specs.Shadow.{IsShadow}
use Rattle.isl_images.specs.Shift.{IsOfBoth}
use Rattle.isl_images.proofs.MadeLaws.{of_before, of_same}
use Rattle.isl_images.proofs.PairingLaws.{join_formed, join_same}
use Rattle.isl_images.proofs.pairing.joined.Goals as goal

pub pieces_without-requires-clause-formed : goal.pieces_without-requires-clause-formed
pieces_without-requires-clause-formed c =
    let params = c.args.params.now in
    let p = c.args.first.now in
    let q = c.args.second.now in
    let x = form_of c.in-Map-Map.from.value in
    let y = form_of c.in-Map-Map.middle.value in
    let z = form_of c.in-Map-Map.to.value in
    let same : y ≡ form_of c.in-Map-Map.other.value =
    ap form_of (sym c.deref.ensures) ∙ c.if-not-same.ensures.0 refl ∙ ap form_of c.deref-2.ensures in
    let first_lies : p.space ≡ map_of x y = sym c.space.ensures ∙ ap space_form_of c.in-Map-Map.is-0 in
    let second_lies : q.space ≡ map_of y z =
    sym c.space-2.ensures ∙ ap space_form_of c.in-Map-Map.is-1 ∙ ap (λ (f : Form). map_of f z) (sym same) in
    let one : form_of c.in_ok-clone.field-0.value ≡ x = ap form_of c.in_ok-clone.ensures.cases in
    let two : form_of c.in_ok-clone-2.field-0.value ≡ z = ap form_of c.in_ok-clone-2.ensures.cases in
    rw (one, two)
    (join_formed c.args.meter.now params p q x y z first_lies second_lies c.requires.first c.requires.second c.requires.narrow)

pub pieces_without-requires-clause-within : goal.pieces_without-requires-clause-within
pieces_without-requires-clause-within c =
    let g = c.args.meter.now in
    let h = c.unit.new.self in
    let first = bits_after_unit g h c.args.first.now.system c.in_ok-unit.ensures.1 c.requires.first_within in
    let second = bits_after_unit g h c.args.second.now.system c.in_ok-unit.ensures.1 c.requires.second_within in
    (c.in_ok-both.ensures h (subst (IsSystemWithin h) (sym c.system.ensures) first)
    (subst (IsSystemWithin h) (sym c.system-2.ensures) second)).within

pub returns-clause-made : goal.returns-clause-made
returns-clause-made c =
    let g = c.args.meter.now in
    let h = c.unit.new.self in
    let params = c.args.params.now in
    let p = c.args.first.now in
    let q = c.args.second.now in
    let x = form_of c.in-Map-Map.from.value in
    let y = form_of c.in-Map-Map.middle.value in
    let z = form_of c.in-Map-Map.to.value in
    let both = c.in_ok-both.both in
    let same : y ≡ form_of c.in-Map-Map.other.value =
    ap form_of (sym c.deref.ensures) ∙ c.if-not-same.ensures.0 refl ∙ ap form_of c.deref-2.ensures in
    let first_lies : p.space ≡ map_of x y = sym c.space.ensures ∙ ap space_form_of c.in-Map-Map.is-0 in
    let second_lies : q.space ≡ map_of y z =
    sym c.space-2.ensures ∙ ap space_form_of c.in-Map-Map.is-1 ∙ ap (λ (f : Form). map_of f z) (sym same) in
    let width : c.width-width.result ≡ width_of x = c.width-width.ensures ∙ ap (λ (s : Shape). width_of (form_of s)) c.deref-3.ensures in
    let of : IsOfBoth g p.system q.system (length params) (width_of x) both =
    rw (c.system.ensures, c.system-2.ensures, c.len.ensures.len, width) at
    (c.in_ok-both.ensures g (subst (IsSystemWithin g) (sym c.system.ensures) c.requires.first_within)
    (subst (IsSystemWithin g) (sym c.system-2.ensures) c.requires.second_within)) in
    let one : form_of c.in_ok-clone.field-0.value ≡ x = ap form_of c.in_ok-clone.ensures.cases in
    let two : form_of c.in_ok-clone-2.field-0.value ≡ z = ap form_of c.in_ok-clone-2.ensures.cases in
    let middle : c.width.result ≡ width_of y = c.width.ensures ∙ ap (λ (s : Shape). width_of (form_of s)) c.deref-4.ensures in
    let told = rw (one, two, width, middle) at c.pieces_without.ensures.made in
    let shadow = IsShadow params (map_of x z) both (record { from = width_of x; count = width_of y }) in
    let Joined = λ (v : Valuation). JoinHas (elements_of params p v) (elements_of params q v) in
    IfOk-weaker c.pieces_without.result
    (λ made. ArePiecesOf h params ⊥ shadow made.items)
    (λ made. ArePiecesOf g params ⊥ Joined made.items)
    (λ made are. of_same g params ⊥ ⊥ shadow Joined made.items
    (λ never. never)
    (λ v e. join_same g params p q x y z first_lies second_lies c.requires.first c.requires.second both of v e)
    (of_before g h params ⊥ shadow made.items (IsCharged-unit g h c.in_ok-unit.ensures.1) are))
    told

pub returns-then-not-same-clause-units : goal.returns-then-not-same-clause-units
returns-then-not-same-clause-units c =
    let x = form_of c.in-Map-Map.from.value in
    let y = form_of c.in-Map-Map.middle.value in
    let u = form_of c.in-Map-Map.other.value in
    let w = form_of c.in-Map-Map.to.value in
    let differ : ¬ (y ≡ u) =
    λ e. false≢true (c.if-not-same.ensures.1 (ap form_of c.deref.ensures ∙ e ∙ ap form_of (sym c.deref-2.ensures))) in
    apart_free are_linked c.args.first.now.space c.args.second.now.space c.args.meter.now
    (not_linked c.args.first.now.space c.args.second.now.space x y u w (sym c.space.ensures ∙ ap space_form_of c.in-Map-Map.is-0)
    (sym c.space-2.ensures ∙ ap space_form_of c.in-Map-Map.is-1) differ)

pub returns-clause-units : goal.returns-clause-units
returns-clause-units c =
    let g = c.args.meter.now in
    let h = c.unit.new.self in
    let k = c.pieces_without.new.meter in
    let e = c.in_ok-unit.ensures.1 in
    MatchResult-weaker c.pieces_without.result c.pieces_without.ensures.meter
    (λ made p. unit_pays are_linked c.args.first.now.space c.args.second.now.space g h k e p)
    (λ cut p. IsCutBy-after g h k cut (IsCharged-unit g h e) p)
