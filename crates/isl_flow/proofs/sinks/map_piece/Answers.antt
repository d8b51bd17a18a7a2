use Rattle.std.proofs.Common.{◌≡◌, refl, sym, ap, ◌∙◌, subst, List, [], ◌∷◌}
use Rattle.isl_images.specs.Made.{IsPlain}
use Rattle.isl_piece.specs.Piece.{PieceView}
use Rattle.isl_space.specs.Shape.{form_of}
use Rattle.isl_space.specs.Space.{space_form_of}
use Rattle.isl_space.specs.SpaceForm.{map_of, set_of}
use Rattle.isl_flow.specs.Last.{HasMap}
use Rattle.isl_remainder.specs.Made.{AreMade}
use Rattle.isl_precedence.specs.Precedence.{HasAt, IsSound}
use Rattle.isl_remainder.proofs.MadeLaws.{made_nothing}
use Rattle.isl_flow.proofs.SinkLaws.{map_made, never_map}
use Rattle.isl_flow.proofs.sinks.map_piece.Goals as goal

pub returns-in_default : goal.returns-in_default
returns-in_default c g params is =
    let p = c.args.piece.now in
    let x = form_of c.in_default.field-0.value in
    let lies : p.space ≡ set_of x = sym c.space.ensures ∙ ap space_form_of c.in_default.is in
    made_nothing (HasAt params) (IsSound g params) IsPlain (IsPlain p) (λ at. HasMap params at p) (never_map g params p x lies)
    c.new.result.items c.new.ensures.items

pub returns : goal.returns
returns c g params is =
    let p = c.args.piece.now in
    let x = form_of c.in-Map.field-0.value in
    let y = form_of c.in-Map.field-1.value in
    let lies : p.space ≡ map_of x y = sym c.space.ensures ∙ ap space_form_of c.in-Map.is in
    let made : c.push.new.self.items ≡ p ∷ [] =
    rw (c.in_ok-push.ensures.items, c.new-made.ensures.items, c.in_ok-copy.ensures) refl in
    subst (λ (l : List PieceView). AreMade (HasAt params) (IsSound g params) IsPlain (IsPlain p) (λ at. HasMap params at p) l) (sym made)
    (map_made g params p x y lies is)
