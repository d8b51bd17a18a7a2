use Rattle.std.proofs.Common.{◌∙◌, ap, ap₂, arith, ◌++◌}
use Rattle.std.specs.List.{range_with_len}
use Rattle.isl_images.proofs.shift.shifted_places.Goals as goal

pub returns : goal.returns
returns c =
    c.in_ok-append.ensures.items
    ∙ ap₂ (λ l m. l ++ m) (c.in_ok-places.ensures ∙ ap (range_with_len 0) (omega arith))
    (c.in_ok-behind.ensures ∙ ap (range_with_len c.args.shift.start) (omega arith))
