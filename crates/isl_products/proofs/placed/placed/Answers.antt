use Rattle.std.proofs.Common.{◌≡◌, ap, ap₂, ◌∙◌, ◌+◌}
use Rattle.std.proofs.lemmas.Result.{IfOk-weaker}
use Rattle.isl_space.specs.Space.{space_form_of}
use Rattle.isl_piece.specs.Placed.{placed_system}
use Rattle.isl_products.specs.Layout.{picked_places}
use Rattle.isl_products.specs.Made.{IsPlacedAt}
use Rattle.isl_products.proofs.PlaceLaws.{made_places, placed_at}
use Rattle.isl_products.proofs.placed.placed.Goals as goal

pub placed-requires : goal.placed-requires
placed-requires c =
    let pick = c.args.pick in
    let columns = ap₂ (λ m n. m + n) c.len-2.ensures.len c.width.ensures in
    let places = c.as_slice.ensures.value ∙ c.in_ok-places.ensures ∙ ap (λ n. picked_places n pick) c.len.ensures.len in
    (made_places c.args.params.now (space_form_of c.args.space.now) c.args.piece.now.space pick c.requires.pick
    (c.len-2.result + c.width.result) c.as_slice.result.now columns places).inside

pub returns : goal.returns
returns c = λ g within.
    let params = c.args.params.now in
    let space = space_form_of c.args.space.now in
    let pick = c.args.pick in
    let piece = c.args.piece.now in
    let n = c.len-2.result + c.width.result in
    let ps = c.as_slice.result.now in
    let columns = ap₂ (λ m k. m + k) c.len-2.ensures.len c.width.ensures in
    let places = c.as_slice.ensures.value ∙ c.in_ok-places.ensures ∙ ap (λ k. picked_places k pick) c.len.ensures.len in
    IfOk-weaker c.placed.result (λ s. s ≡ placed_system n ps c.system.result.now) (IsPlacedAt g params space pick piece)
    (λ s is. placed_at g params space pick piece c.requires.piece within c.requires.pick s n ps c.system.result.now columns places
    c.system.ensures is) c.placed.ensures.exact
