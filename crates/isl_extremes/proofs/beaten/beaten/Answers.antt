use Rattle.std.proofs.Common.{[], ◌∷◌, ◌+◌}
use Rattle.std.proofs.lemmas.Result.{IfOk-weaker}
use Rattle.isl_extremes.specs.Systems.{AreBeaten}
use Rattle.isl_blocks.specs.Left.{IsLeftWithout}
use Rattle.isl_extremes.proofs.BeatenLaws.{beaten_from}
use Rattle.isl_extremes.proofs.beaten.beaten.Goals as goal

pub returns-clause-beaten : goal.returns-clause-beaten
returns-clause-beaten c =
    let g = c.args.meter.now in
    let order = c.args.order in
    let s = c.args.system.now in
    let ahead = c.in_ok-both.ensures in
    IfOk-weaker c.live_without.result
    (λ found. IsLeftWithout g c.in_ok-both.both (order.front + order.width) order.width found.items)
    (λ found. AreBeaten g order c.args.at (s ∷ []) found.items)
    (λ found left. beaten_from g order c.args.at s c.in_ok-both.both found.items c.requires.plain ahead left)
    c.live_without.ensures.left
