use Rattle.std.proofs.Common.{◌∙◌, ap, ap₂, arith, ◌+◌, ◌++◌}
use Rattle.std.specs.List.{range_with_len}
use Rattle.isl_products.proofs.layout.picked_places.Goals as goal

pub returns : goal.returns
returns c =
    let first = c.args.parameters + c.args.pick.before in
    let second = first + c.args.pick.first + c.args.pick.between in
    c.in_ok-append-2.ensures.items
    ∙ ap₂ (λ l m. l ++ m) (c.in_ok-places.ensures ∙ ap (range_with_len 0) (omega arith))
    (c.in_ok-append.ensures.items
    ∙ ap₂ (λ l m. l ++ m) (c.in_ok-picked.ensures ∙ ap (range_with_len first) (omega arith))
    (c.in_ok-behind.ensures ∙ ap (range_with_len second) (omega arith)))
