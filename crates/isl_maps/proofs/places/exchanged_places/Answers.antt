use Rattle.std.proofs.Common.{◌∙◌, ap, ap₂, arith, ◌+◌, ◌++◌}
use Rattle.std.specs.List.{range_with_len}
use Rattle.isl_maps.proofs.places.exchanged_places.Goals as goal

pub returns : goal.returns
returns c =
    c.in_ok-append-2.ensures.items
    ∙ ap₂ (λ l m. l ++ m) c.in_ok-places.ensures
    (c.in_ok-append.ensures.items
    ∙ ap₂ (λ l m. l ++ m) (c.in_ok-exchanged.ensures ∙ ap (range_with_len (c.args.before + c.args.second)) (omega arith))
    (c.in_ok-behind.ensures ∙ ap (range_with_len c.args.before) (omega arith)))
