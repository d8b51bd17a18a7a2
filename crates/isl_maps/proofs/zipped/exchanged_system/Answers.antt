use Rattle.std.proofs.Common.{◌≡◌, ◌∙◌, ap₂, refl, ◌+◌, ◌++◌}
use Rattle.std.proofs.lemmas.Result.{IfOk-weaker}
use Rattle.isl_piece.specs.Placed.{placed_system}
use Rattle.isl_maps.specs.Places.{exchanged_system}
use Rattle.isl_maps.proofs.ZippedLaws.{exchanged_is, exchanged_inside}
use Rattle.isl_maps.proofs.zipped.exchanged_system.Goals as goal

pub placed-requires : goal.placed-requires
placed-requires c =
    let run = c.args.before + c.args.first + c.args.second in
    exchanged_inside c.args.before c.args.first c.args.second c.args.own.now c.requires c.free-free.result run c.as_slice.result.now
    c.free-free.ensures refl
    (c.as_slice.ensures.value ∙ c.in_ok-append.ensures.items
    ∙ ap₂ (λ l m. l ++ m) c.in_ok-places.ensures c.in_ok-behind.ensures)

pub returns : goal.returns
returns c =
    let run = c.args.before + c.args.first + c.args.second in
    IfOk-weaker c.placed.result (λ made. made ≡ placed_system c.free-free.result c.as_slice.result.now c.args.own.now)
    (λ made. made ≡ exchanged_system c.args.before c.args.first c.args.second c.args.own.now)
    (λ made is. exchanged_is c.args.before c.args.first c.args.second c.args.own.now c.requires c.free-free.result run c.as_slice.result.now
    c.free-free.ensures refl
    (c.as_slice.ensures.value ∙ c.in_ok-append.ensures.items
    ∙ ap₂ (λ l m. l ++ m) c.in_ok-places.ensures c.in_ok-behind.ensures) made is)
    c.placed.ensures.exact
