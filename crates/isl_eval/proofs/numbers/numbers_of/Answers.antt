use Rattle.std.proofs.Common.{◌∙◌, ap, rules}
use Rattle.isl_space.specs.Valuation.{Valuation, value_at}
use Rattle.isl_eval.proofs.NumberLaws.{numbers_next}
use Rattle.isl_eval.proofs.numbers.numbers_of.Goals as goal

pub loop-place-preserved : goal.loop-place-preserved
loop-place-preserved c =
    numbers_next c.args.params.now c.args.options.now.at c.loop-place.place c.name.result.now c.loop-place.numbers.items c.push.new.self.items
    c.number_of.result
    c.name.ensures c.loop-place.invariant (c.number_of.ensures ∙ ap (λ (at : Valuation). value_at at c.name.result.now) c.at.ensures)
    (search rules)
