use Rattle.std.proofs.Common.{◌∙◌, ◌++◌, ◌∷◌, [], refl, ap, arith, pos, List}
use Rattle.isl_meter.proofs.LimitLemmas.{IsWithin-small}
use Rattle.isl_loop.specs.declared.tree.Item.{Item}
use Rattle.isl_bounds.proofs.ExprLaws.{one_over, one_value}
use Rattle.isl_bounds.proofs.form.of_atom.Goals as goal

pub returns-clause-over : goal.returns-clause-over
returns-clause-over c g n wide over =
    let item : Item = record { coef = pos 1; atom = c.args.atom } in
    one_over g n c.push.new.self item (c.in_ok-push.ensures.ok ∙ ap (λ (items : List Item). items ++ item ∷ []) c.new-items.ensures)
    (IsWithin-small g (pos 1) wide (omega arith)) over (IsWithin-small g (pos 0) wide (omega arith))

pub returns-clause-value : goal.returns-clause-value
returns-clause-value c point =
    let item : Item = record { coef = pos 1; atom = c.args.atom } in
    one_value c.push.new.self item point
    (c.in_ok-push.ensures.ok ∙ ap (λ (items : List Item). items ++ item ∷ []) c.new-items.ensures) refl
