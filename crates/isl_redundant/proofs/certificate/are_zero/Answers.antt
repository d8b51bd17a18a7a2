use Rattle.std.proofs.Common.{◌≡◌, take, pos, ℤ, arith, rules}
use Rattle.std.proofs.lemmas.Grind.{common_steps}
use Rattle.std.proofs.lemmas.List.Elements.{All-more}
use Rattle.isl_redundant.proofs.certificate.are_zero.Goals as goal

pub loop-number-preserved : goal.loop-number-preserved
loop-number-preserved c =
    let numbers = c.args.numbers.now in
    let number = c.number-item.result in
    let own : number ≡ pos 0 = grind arith in
    All-more (λ (z : ℤ). z ≡ pos 0) numbers c.loop-number.number-index number c.loop-number-test.true c.loop-number.invariant (rw c.number-item.is at own)

pub returns : goal.returns
returns c =
    let whole : take c.loop-number.number-index c.args.numbers.now ≡ c.args.numbers.now = grind (arith, common_steps) in
    ((λ t. rw whole at c.loop-number.invariant), (λ h. search rules))
