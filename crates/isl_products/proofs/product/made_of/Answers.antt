use Rattle.std.proofs.Common.{◌≡◌, ◌↔◌, sym, ap, ◌∙◌, subst, [], ◌∷◌, ◌++◌, All, Any, map}
use Rattle.std.proofs.lemmas.List.Elements.{All-cons, All-nil}
use Rattle.std.proofs.lemmas.Result.{IfOk-weaker, MatchResult-weaker}
use Rattle.isl_meter.proofs.CutLemmas.{IsCharged-unit, IsCutBy-after}
use Rattle.isl_space.specs.Space.{space_form_of}
use Rattle.isl_piece.specs.System.{IsSystemWithin}
use Rattle.isl_union.specs.KeptValue.{HasElement}
use Rattle.isl_union.specs.Piece.{kept_piece}
use Rattle.isl_union.specs.Pieces.{IsOfAny}
use Rattle.isl_union.proofs.MeetSteps.{bits_after_unit}
use Rattle.isl_union.proofs.PiecesLaws.{small_before, through}
use Rattle.isl_relation.proofs.TogetherLaws.{apart_free, unit_pays}
use Rattle.isl_products.specs.Layout.{are_together, layout_view}
use Rattle.isl_products.specs.Made.{IsMadeOf}
use Rattle.isl_products.proofs.LayoutLaws.{forms_from, forms_none, layout_formed, layout_picks, not_together}
use Rattle.isl_products.proofs.PairLaws.{joined_made}
use Rattle.isl_products.proofs.product.made_of.Goals as goal

pub joined-requires-clause-narrow : goal.joined-requires-clause-narrow
joined-requires-clause-narrow c =
    let a = c.args.a.now.space in
    let b = c.args.b.now.space in
    let forms = forms_from c.args.product a b (space_form_of c.space.result.now) (space_form_of c.space-2.result.now)
    c.in_ok-layout.field-0 c.in-Some.layout c.in_ok-layout.ensures c.in-Some.is c.space.ensures c.space-2.ensures in
    (layout_formed c.args.product a b (layout_view c.in-Some.layout) forms c.requires.own.kept.space c.requires.other.kept.space
    c.requires.narrow).narrow.coordinates

pub joined-requires-clause-own_pick : goal.joined-requires-clause-own_pick
joined-requires-clause-own_pick c =
    let a = c.args.a.now.space in
    let b = c.args.b.now.space in
    let forms = forms_from c.args.product a b (space_form_of c.space.result.now) (space_form_of c.space-2.result.now)
    c.in_ok-layout.field-0 c.in-Some.layout c.in_ok-layout.ensures c.in-Some.is c.space.ensures c.space-2.ensures in
    (layout_picks c.args.product a b (layout_view c.in-Some.layout) forms).0

pub joined-requires-clause-other_pick : goal.joined-requires-clause-other_pick
joined-requires-clause-other_pick c =
    let a = c.args.a.now.space in
    let b = c.args.b.now.space in
    let forms = forms_from c.args.product a b (space_form_of c.space.result.now) (space_form_of c.space-2.result.now)
    c.in_ok-layout.field-0 c.in-Some.layout c.in_ok-layout.ensures c.in-Some.is c.space.ensures c.space-2.ensures in
    (layout_picks c.args.product a b (layout_view c.in-Some.layout) forms).1

pub joined-requires-clause-within : goal.joined-requires-clause-within
joined-requires-clause-within c = (c.args.meter.now, c.requires.own_within, c.requires.other_within)

pub live_pieces_in-requires-clause-space : goal.live_pieces_in-requires-clause-space
live_pieces_in-requires-clause-space c =
    let a = c.args.a.now.space in
    let b = c.args.b.now.space in
    let forms = forms_from c.args.product a b (space_form_of c.space.result.now) (space_form_of c.space-2.result.now)
    c.in_ok-layout.field-0 c.in-Some.layout c.in_ok-layout.ensures c.in-Some.is c.space.ensures c.space-2.ensures in
    layout_formed c.args.product a b (layout_view c.in-Some.layout) forms c.requires.own.kept.space c.requires.other.kept.space
    c.requires.narrow

pub live_pieces_in-requires-clause-within : goal.live_pieces_in-requires-clause-within
live_pieces_in-requires-clause-within c =
    let g = c.args.meter.now in
    let h = c.unit.new.self in
    let s = c.in_ok-joined.field-0 in
    let joined = c.in_ok-joined.ensures g c.requires.own_within c.requires.other_within in
    let are : c.push.new.self.items ≡ s ∷ [] = c.in_ok-push.ensures.items ∙ ap (λ l. l ++ s ∷ []) c.new-systems.ensures.items in
    subst (All (IsSystemWithin h)) (sym are) (All-cons (IsSystemWithin h) s []
    (bits_after_unit g h s c.in_ok-unit.ensures.1 joined.over.within) (All-nil (IsSystemWithin h)))

pub returns-clause-elements : goal.returns-clause-elements
returns-clause-elements c v e =
    let g = c.args.meter.now in
    let params = c.args.params.now in
    let a = c.args.a.now in
    let b = c.args.b.now in
    let l = c.in-Some.layout in
    let forms = forms_from c.args.product a.space b.space (space_form_of c.space.result.now) (space_form_of c.space-2.result.now)
    c.in_ok-layout.field-0 l c.in_ok-layout.ensures c.in-Some.is c.space.ensures c.space-2.ensures in
    let s = c.in_ok-joined.field-0 in
    let joined = c.in_ok-joined.ensures g c.requires.own_within c.requires.other_within in
    let are : c.push.new.self.items ≡ s ∷ [] = c.in_ok-push.ensures.items ∙ ap (λ t. t ++ s ∷ []) c.new-systems.ensures.items in
    let made = joined_made c.args.product params a b g (layout_view l) s forms joined v e in
    IfOk-weaker c.live_pieces_in.result
    (λ kept. Any (HasElement params v e) (map kept_piece kept.items) ↔ IsOfAny params (space_form_of l.space) c.push.new.self.items v e)
    (λ kept. Any (HasElement params v e) (map kept_piece kept.items) ↔ IsMadeOf c.args.product params v e (kept_piece a) (kept_piece b))
    (λ kept h. through (subst (λ ss. Any (HasElement params v e) (map kept_piece kept.items)
    ↔ IsOfAny params (space_form_of l.space) ss v e) are h) made)
    (c.live_pieces_in.ensures.elements v e)

pub returns-clause-numbers : goal.returns-clause-numbers
returns-clause-numbers c =
    let g = c.args.meter.now in
    let h = c.unit.new.self in
    IfOk-weaker c.live_pieces_in.result _ _
    (λ kept all. small_before g h (map kept_piece kept.items) (IsCharged-unit g h c.in_ok-unit.ensures.1) all)
    c.live_pieces_in.ensures.numbers

pub returns-in_default-clause-units : goal.returns-in_default-clause-units
returns-in_default-clause-units c =
    let a = c.args.a.now.space in
    let b = c.args.b.now.space in
    let none = forms_none c.args.product a b (space_form_of c.space.result.now) (space_form_of c.space-2.result.now)
    c.in_ok-layout.field-0 c.in_ok-layout.ensures c.in_default.is c.space.ensures c.space-2.ensures in
    apart_free (are_together c.args.product) a b c.args.meter.now (not_together c.args.product a b none)

pub returns-clause-units : goal.returns-clause-units
returns-clause-units c =
    let g = c.args.meter.now in
    let h = c.unit.new.self in
    let k = c.live_pieces_in.new.meter in
    let e = c.in_ok-unit.ensures.1 in
    MatchResult-weaker c.live_pieces_in.result c.live_pieces_in.ensures.meter
    (λ made p. unit_pays (are_together c.args.product) c.args.a.now.space c.args.b.now.space g h k e p)
    (λ cut p. IsCutBy-after g h k cut (IsCharged-unit g h e) p)
