use Rattle.std.proofs.Common.{◌≡◌, take, pos, ◌<ℤ◌, arith, rules}
use Rattle.std.proofs.lemmas.Grind.{common_steps}
use Rattle.std.proofs.lemmas.List.Elements.{All-more}
use Rattle.isl_math.proofs.Ring.{linear}
use Rattle.isl_omega.specs.declared.shadow.Splinters.{Splinters}
use Rattle.isl_column.proofs.splinters.are_spent.Goals as goal

pub loop-tail-preserved : goal.loop-tail-preserved
loop-tail-preserved c =
    let tails = c.args.tails.now in
    let tail = c.tail-item.result in
    let own : tail.last <ℤ pos 0 = grind (arith, linear) in
    All-more (λ (t : Splinters). t.last <ℤ pos 0) tails c.loop-tail.tail-index tail c.loop-tail-test.true c.loop-tail.invariant (rw c.tail-item.is at own)

pub returns : goal.returns
returns c =
    let whole : take c.loop-tail.tail-index c.args.tails.now ≡ c.args.tails.now = grind (arith, common_steps) in
    ((λ t. rw whole at c.loop-tail.invariant), (λ h. search rules))
