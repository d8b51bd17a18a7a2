use Rattle.std.proofs.Common.{◌≢◌, ◌∙◌, sym, arith}
use Rattle.std.proofs.lemmas.Grind.{common_steps}
use Rattle.isl_difference.proofs.cover.is_inside.Goals as goal

pub returns-then-same-clause-tame : goal.returns-then-same-clause-tame
returns-then-same-clause-tame c = λ columns bits limit room d o few. c.is_inside_aligned.ensures.tame columns bits limit room d o few

pub returns-clause-tame : goal.returns-clause-tame
returns-clause-tame c = λ columns bits limit room d o few.
    let differ : c.args.system.now.definitions ≢ c.args.other.now.definitions = grind (arith, common_steps) in
    absurd (differ (d.undefined ∙ sym o.undefined))
