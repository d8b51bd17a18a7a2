use Rattle.std.proofs.Common.{◌≡◌, ◌∙◌, ap, arith, ◌-◌}
use Rattle.std.specs.List.{range_with_len}
use Rattle.std.proofs.lemmas.Result.{IfOk-weaker}
use Rattle.isl_maps.proofs.places.own_places.Goals as goal

pub returns : goal.returns
returns c =
    IfOk-weaker c.columns_between.result (λ places. places.items ≡ range_with_len 0 (c.args.count - 0))
    (λ places. places.items ≡ range_with_len 0 c.args.count) (λ places is. is ∙ ap (range_with_len 0) (omega arith))
    c.columns_between.ensures
