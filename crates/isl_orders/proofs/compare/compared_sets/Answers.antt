use Rattle.std.proofs.Common.{◌≡◌, ◌↔◌, ap, sym, ◌∙◌, refl, All, get_or, length, map, unsigned_abs}
use Rattle.std.proofs.lemmas.Bool.{false≢true}
use Rattle.isl_meter.specs.Gauge.{limit_of}
use Rattle.isl_space.specs.Form.{width_of}
use Rattle.isl_space.specs.Shape.{form_of}
use Rattle.isl_space.specs.Space.{space_form_of}
use Rattle.isl_space.specs.SpaceForm.{map_of, set_of}
use Rattle.isl_space.specs.Valuation.{Valuation}
use Rattle.isl_space.specs.declared.shape.Shape.{Shape}
use Rattle.isl_difference.proofs.SplitLaws.{charged_within}
use Rattle.isl_union.specs.Numbers.{IsPieceUpTo}
use Rattle.isl_union.specs.Piece.{kept_piece, IsPieceOf}
use Rattle.isl_union.specs.Pieces.{IsOfAny}
use Rattle.isl_relation.specs.Orders.{OrderedSetsHas}
use Rattle.isl_images.specs.Made.{elements_of, elements_of_all, ArePiecesOf}
use Rattle.isl_images.proofs.MadeLaws.{of_nothing}
use Rattle.isl_blocks.proofs.ResultLaws.{ok_case, ok_has}
use Rattle.isl_orders.specs.Comparison.{IsOrdered}
use Rattle.isl_orders.specs.Ordered.{AreOfSets}
use Rattle.isl_orders.proofs.CompareLaws.{left_made, sets_apart, sets_formed, sets_same}
use Rattle.isl_orders.proofs.compare.compared_sets.Goals as goal

pub returns-then-not-same-clause-made : goal.returns-then-not-same-clause-made
returns-then-not-same-clause-made c =
    let a = c.args.a.now in
    let b = c.args.b.now in
    let x = form_of c.in-Set-Set.x.value in
    let y = form_of c.in-Set-Set.y.value in
    let differ : ¬ (x ≡ y) =
    λ e. false≢true (c.if-not-same.ensures.1 (ap form_of c.deref.ensures ∙ e ∙ ap form_of (sym c.deref-2.ensures))) in
    of_nothing c.args.meter.now c.args.params.now ⊥
    (λ v. OrderedSetsHas (IsOrdered c.args.order) (elements_of c.args.params.now a v) (elements_of c.args.params.now b v))
    c.new-then-not-same.result.items c.new-then-not-same.ensures.items
    (sets_apart c.args.params.now c.args.order a b x y (sym c.space.ensures ∙ ap space_form_of c.in-Set-Set.is-0)
    (sym c.space-2.ensures ∙ ap space_form_of c.in-Set-Set.is-1) differ)

pub live_pieces_in-requires-clause-space : goal.live_pieces_in-requires-clause-space
live_pieces_in-requires-clause-space c =
    let a = c.args.a.now in
    let b = c.args.b.now in
    let x = form_of c.in-Set-Set.x.value in
    let y = form_of c.in-Set-Set.y.value in
    let same : x ≡ y = ap form_of (sym c.deref.ensures) ∙ c.if-not-same.ensures.0 refl ∙ ap form_of c.deref-2.ensures in
    let a_lies : a.space ≡ set_of x = sym c.space.ensures ∙ ap space_form_of c.in-Set-Set.is-0 in
    let b_lies : b.space ≡ set_of x = sym c.space-2.ensures ∙ ap space_form_of c.in-Set-Set.is-1 ∙ ap set_of (sym same) in
    let one : form_of c.in_ok-clone.field-0.value ≡ x = ap form_of c.in_ok-clone.ensures.cases in
    let two : form_of c.in_ok-clone-2.field-0.value ≡ x = ap form_of c.in_ok-clone-2.ensures.cases in
    rw (one, two) (sets_formed c.args.params.now c.args.order a b x a_lies b_lies c.requires.own c.requires.other c.requires.narrow)

pub live_pieces_in-requires-clause-within : goal.live_pieces_in-requires-clause-within
live_pieces_in-requires-clause-within c = λ k d l.
    charged_within c.args.meter.now c.of_sets.new.meter (get_or c.in_ok-left.left.items k d) c.in_ok-left.ensures.meter
    (c.in_ok-left.ensures.left.within k d l)

pub returns-clause-made : goal.returns-clause-made
returns-clause-made c =
    let g = c.args.meter.now in
    let h = c.of_sets.new.meter in
    let params = c.args.params.now in
    let a = c.args.a.now in
    let b = c.args.b.now in
    let x = form_of c.in-Set-Set.x.value in
    let y = form_of c.in-Set-Set.y.value in
    let same : x ≡ y = ap form_of (sym c.deref.ensures) ∙ c.if-not-same.ensures.0 refl ∙ ap form_of c.deref-2.ensures in
    let a_lies : a.space ≡ set_of x = sym c.space.ensures ∙ ap space_form_of c.in-Set-Set.is-0 in
    let b_lies : b.space ≡ set_of x = sym c.space-2.ensures ∙ ap space_form_of c.in-Set-Set.is-1 ∙ ap set_of (sym same) in
    let one : form_of c.in_ok-clone.field-0.value ≡ x = ap form_of c.in_ok-clone.ensures.cases in
    let two : form_of c.in_ok-clone-2.field-0.value ≡ x = ap form_of c.in_ok-clone-2.ensures.cases in
    let left = c.in_ok-left.left.items in
    let width : c.width-width.result ≡ width_of x = c.width-width.ensures ∙ ap (λ (s : Shape). width_of (form_of s)) c.deref-3.ensures in
    let of : AreOfSets g (length params) (width_of x) c.args.order a.system b.system left =
    rw (c.len.ensures.len, width, c.system.ensures, c.system-2.ensures) at c.in_ok-left.ensures.left in
    let r = c.live_pieces_in.result in
    let told = c.live_pieces_in.ensures in
    let Q = λ (v : Valuation). OrderedSetsHas (IsOrdered c.args.order) (elements_of params a v) (elements_of params b v) in
    ok_case r (λ made. ArePiecesOf g params ⊥ Q made.items) (λ made is.
    left_made g h c.in_ok-left.ensures.meter params Q (map_of x x) left made.items
    (λ v e. ok_has r made (λ m. elements_of_all params m.items v e ↔ IsOfAny params (map_of x x) left v e) is
    (rw (one, two) at (told.elements v e)))
    (λ v e. sets_same c.args.params.now c.args.order a b x a_lies b_lies c.requires.own c.requires.other g left of v e)
    (ok_has r made (λ m. All (IsPieceOf params) m.items) is told.sound)
    (ok_has r made (λ m. All (IsPieceUpTo (unsigned_abs (limit_of h))) (map kept_piece m.items)) is told.numbers))
