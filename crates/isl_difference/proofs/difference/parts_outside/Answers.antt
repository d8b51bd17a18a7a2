use Rattle.std.proofs.Common.{◌≡◌, ◌≢◌, ◌∙◌, sym, arith}
use Rattle.std.proofs.lemmas.Grind.{common_steps}
use Rattle.isl_difference.proofs.DifferenceLaws.{told_here, told_there}
use Rattle.isl_difference.proofs.difference.parts_outside.Goals as goal

pub returns-then-same-clause-definitions : goal.returns-then-same-clause-definitions
returns-then-same-clause-definitions c = λ own other. rw own at c.parts_aligned.ensures.definitions

pub returns-clause-definitions : goal.returns-clause-definitions
returns-clause-definitions c = λ own other.
    let differ : c.args.system.now.definitions ≢ c.args.other.now.definitions = grind (arith, common_steps) in
    absurd (differ (own ∙ sym other))

pub returns-then-same-clause-told : goal.returns-then-same-clause-told
returns-then-same-clause-told c = λ t.
    let same : c.args.system.now.definitions ≡ c.args.other.now.definitions = grind (arith, common_steps) in
    c.parts_aligned.ensures.told (told_here c.args.system.now c.args.other.now same t)

pub returns-then-same-clause-asked : goal.returns-then-same-clause-asked
returns-then-same-clause-asked c = λ n.
    let same : c.args.system.now.definitions ≡ c.args.other.now.definitions = grind (arith, common_steps) in
    c.parts_aligned.ensures.asked (λ t. n (told_there c.args.system.now c.args.other.now same t))

pub returns-then-same-clause-tame : goal.returns-then-same-clause-tame
returns-then-same-clause-tame c = λ columns bits limit room d o. c.parts_aligned.ensures.tame columns bits limit room d o

pub returns-clause-tame : goal.returns-clause-tame
returns-clause-tame c = λ columns bits limit room d o.
    let differ : c.args.system.now.definitions ≢ c.args.other.now.definitions = grind (arith, common_steps) in
    absurd (differ (d.undefined ∙ sym o.undefined))
