use Rattle.std.proofs.Common.{rules, ◌∙◌, ap, pos, List}
use Rattle.std.specs.Ordering.{int_eq}
use Rattle.std.proofs.lemmas.Fn.{filter_same}
use Rattle.isl_piece.specs.declared.row.Row.{Row}
use Rattle.isl_piece.specs.Row.{coef_at}
use Rattle.isl_presolve.specs.OneSided.{rows_without}
use Rattle.isl_presolve.proofs.one_sided.without_named.Goals as goal

pub returns : goal.returns
returns c =
    let col = c.args.col in
    let kept = filter_same _ (λ (r : Row). int_eq (coef_at r col) (pos 0)) _ (λ x b f k. (search rules, search rules)) _ _
    c.retain.ensures.filtered in
    c.from.ensures ∙ kept ∙ ap (λ (rows : List Row). rows_without col rows) c.from-kept.ensures
