use Rattle.std.proofs.Common.{◌≡◌, ◌<◌, ◌≤◌, ◌∙◌, Any, arith, ap, length, refl, sym}
use Rattle.isl_math.proofs.ListLaws.{Any-contains}
use Rattle.isl_space.specs.Shape.{form_of}
use Rattle.isl_space.specs.Space.{space_form_of}
use Rattle.isl_space.specs.SpaceForm.{map_of, set_of}
use Rattle.isl_piece.specs.Piece.{PieceView}
use Rattle.isl_relation.proofs.SeekLaws.{none_all, none_more}
use Rattle.isl_operators.proofs.SpaceLaws.{IsOfMaps, maps_exactly}
use Rattle.isl_operators.proofs.spaces.has_maps.Goals as goal

pub returns-in-Map-clause-told : goal.returns-in-Map-clause-told
returns-in-Map-clause-told c =
    let pieces = c.pieces-piece-items.result.now in
    let low : c.loop-piece.piece-index < length pieces = omega arith in
    let lies = sym c.space.ensures ∙ ap space_form_of c.in-Map.is in
    let some : Any (λ (p : PieceView). IsOfMaps p.space) pieces =
    Any-contains (λ (p : PieceView). IsOfMaps p.space) pieces c.piece-item.result (c.loop-piece.piece-index, low, sym c.piece-item.is)
    (form_of c.in-Map.field-0.value, form_of c.in-Map.field-1.value, lies) in
    ((λ _. (maps_exactly c.args.value.now pieces c.pieces-piece-items.ensures.content).0 some), (λ _. refl))

pub loop-piece-preserved : goal.loop-piece-preserved
loop-piece-preserved c =
    let pieces = c.pieces-piece-items.result.now in
    let low : c.loop-piece.piece-index < length pieces = omega arith in
    none_more (λ (p : PieceView). IsOfMaps p.space) pieces c.loop-piece.piece-index c.piece-item.result low c.piece-item.is
    c.loop-piece.invariant
    (λ maps.
    let both : set_of (form_of c.in_default.field-0.value) ≡ map_of maps.0 maps.1 =
    sym (ap space_form_of c.in_default.is) ∙ (c.space.ensures ∙ maps.2) in
    cc)

pub returns-clause-told : goal.returns-clause-told
returns-clause-told c =
    let pieces = c.pieces-piece-items.result.now in
    let end : length pieces ≤ c.loop-piece.piece-index = omega arith in
    let none = none_all (λ (p : PieceView). IsOfMaps p.space) pieces c.loop-piece.piece-index end c.loop-piece.invariant in
    let exact = maps_exactly c.args.value.now pieces c.pieces-piece-items.ensures.content in
    ((λ t. exact.0 (none.0 t)), (λ maps. none.1 (exact.1 maps)))
